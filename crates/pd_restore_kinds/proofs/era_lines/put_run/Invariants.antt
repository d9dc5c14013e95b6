use Rattle.std.proofs.Common.{◌≡◌, ℕ, ◌++◌, List}
use Rattle.pd_draft.specs.Closed.{StaysClosed}
use Rattle.pd_draft.specs.Closed.{DraftState}
use Rattle.pd_grammar.specs.EraText.{eras_from}
use Rattle.pd_restore_kinds.specs.EraReading.{HasPut}
use Rattle.pd_restore_kinds.proofs.era_lines.put_run.Given as goal

abbrev pub invariant-loop-i : goal.invariant-loop-i
invariant-loop-i g l =
    let first : DraftState = record { device = g.D.Device.state l.initial.draft.dev.now; place = l.initial.draft.next } in
    let now : DraftState = record { device = g.D.Device.state l.draft.dev.now; place = l.draft.next } in
    record {
      same_reference : l.draft.dev.ghost_name ≡ l.initial.draft.dev.ghost_name;
      put : (eras : List ℕ) (blocks : ℕ) (start : DraftState) → HasPut eras blocks l.initial.array start first → HasPut (eras ++ eras_from l.era l._i) blocks l.array start now;
      closed : StaysClosed first.device now.device;
      faults : now.device.faults ≡ first.device.faults;
    }
