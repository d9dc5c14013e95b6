use Rattle.std.proofs.Common.{◌≡◌, ℕ, List}
use Rattle.pd_draft.specs.Closed.{StaysClosed}
use Rattle.pd_draft.specs.Closed.{DraftState}
use Rattle.pd_image.specs.Source.{KeepsSource}
use Rattle.pd_grammar.specs.EraText.{Line}
use Rattle.pd_restore_kinds.specs.EraReading.{Reading, CanRead, ReadsErasOn}
use Rattle.pd_restore_kinds.proofs.era_lines.restore_lines.Given as goal

abbrev pub invariant-lines : goal.invariant-lines
invariant-lines g l =
    let state = g.D.Device.state in
    let source = g.S.Source.state in
    let first : DraftState = record { device = state l.initial.draft.dev.now; place = l.initial.draft.next } in
    let now : DraftState = record { device = state l.draft.dev.now; place = l.draft.next } in
    record {
      same_reference : l.draft.dev.ghost_name ≡ l.initial.draft.dev.ghost_name;
      reading : CanRead l.text l.array now;
      went : (before : List Line) (room : ℕ) (start : DraftState) → Reading before room l.initial.text l.initial.array start first
          → ReadsErasOn before room l.initial.text (source l.initial.source).left l.text (source l.source).left l.array start now;
      closed : StaysClosed first.device now.device;
      kept : KeepsSource (source l.initial.source) (source l.source);
      source_faults : (source l.source).faults ≡ (source l.initial.source).faults;
      device_faults : now.device.faults ≡ first.device.faults;
    }

abbrev pub decreases-lines : goal.decreases-lines
decreases-lines g l = l.array.words.left
