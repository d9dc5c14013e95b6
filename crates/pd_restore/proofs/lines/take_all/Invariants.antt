use Rattle.std.proofs.Common.{◌≡◌, List, length}
use Rattle.pd_draft.specs.Closed.{StaysClosed}
use Rattle.pd_draft.specs.Closed.{DraftState}
use Rattle.pd_grammar.specs.ThinText.{Line}
use Rattle.pd_restore.specs.Whole.{Coming, TakesLines}
use Rattle.pd_restore.proofs.lines.take_all.Given as goal

abbrev pub invariant-loop-line : goal.invariant-loop-line
invariant-loop-line g l =
    let state = g.D.Device.state in
    let coming = g.L.Giving.coming in
    let has = g.G.Gathering.HasGathered in
    let first : DraftState = record { device = state l.initial.draft.dev.now; place = l.initial.draft.next } in
    let now : DraftState = record { device = state l.draft.dev.now; place = l.draft.next } in
    record {
      same_reference : l.draft.dev.ghost_name ≡ l.initial.draft.dev.ghost_name;
      took : (before : List Line) (start : DraftState) → Coming has before l.room (coming l.initial.lines) l.initial.gathered start first
          → TakesLines has before l.room (coming l.initial.lines) (coming l.lines) l.gathered start now;
      closed : StaysClosed first.device now.device;
      faults : now.device.faults ≡ first.device.faults;
    }

abbrev pub decreases-loop-line : goal.decreases-loop-line
decreases-loop-line g l = length (g.L.Giving.coming l.lines)
