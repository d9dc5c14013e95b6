use Rattle.std.proofs.Common.{refl}
use Rattle.pd_restore.specs.declared.saved_lines.Span.{Span}
use Rattle.pd_restore.specs.SavedLines.{behind, behind_runs, in_runs, in_span}
use Rattle.pd_restore.proofs.ShapeLineLemmas.{begun_behind, begun_in, device_first, none_first, none_in, none_in_runs}
use Rattle.pd_restore.proofs.shape_lines.DeviceLines.next_device.Goals as goal

pub returns-in-Some-clause-some : goal.returns-in-Some-clause-some
returns-in-Some-clause-some c =
    let old = c.args.self.now in
    let h = c.args.saved.now in
    let d = c.in-Some.next.now in
    let begun : Span = record { at = old.pieces.at; left = d.pieces } in
    device_first (in_runs old.runs h.runs) (in_span old.pieces h.pieces) (in_span old.devices h.devices) (behind old.pieces h.pieces) (behind_runs old.runs h.runs)
    d (in_span c.next.new.self h.devices) (in_span begun h.pieces) (behind begun h.pieces)
    (none_in_runs old.runs h.runs c.requires.runs) (none_in old.pieces h.pieces c.requires.pieces) (rw c.devices.ensures at c.in-Some.ensures.some)
    (begun_in old.pieces begun h.pieces c.requires.pieces refl) (begun_behind old.pieces begun h.pieces c.requires.pieces refl)

pub returns-in-None-clause-none : goal.returns-in-None-clause-none
returns-in-None-clause-none c =
    let old = c.args.self.now in
    let h = c.args.saved.now in
    none_first (in_runs old.runs h.runs) (in_span old.pieces h.pieces) (in_span old.devices h.devices) (behind old.pieces h.pieces) (behind_runs old.runs h.runs)
    (none_in_runs old.runs h.runs c.requires.runs) (none_in old.pieces h.pieces c.requires.pieces) (rw c.devices.ensures at c.in-None.ensures.none)
