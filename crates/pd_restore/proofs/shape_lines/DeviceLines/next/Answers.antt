use Rattle.std.proofs.Common.{◌≡◌, [], List, ◌∷◌, ap, drop, refl, sym, subst, take, ◌∙◌}
use Rattle.std.specs.Prelude.{IfNone}
use Rattle.std.proofs.lemmas.Option.{IfSome_then}
use Rattle.pd_grammar.specs.ThinText.{Line}
use Rattle.pd_salvage.specs.declared.saved_shape.SavedPiece.{SavedPiece}
use Rattle.pd_restore.specs.declared.shape_lines.DeviceLines.{DeviceLines}
use Rattle.pd_restore.specs.declared.saved_lines.RunSpan.{RunSpan}
use Rattle.pd_restore.specs.ShapeLines.{device_lines}
use Rattle.pd_restore.specs.SavedLines.{behind, behind_runs, in_runs, in_span}
use Rattle.pd_restore.proofs.ShapeLineLemmas.{begun_behind_runs, begun_in_runs, none_in, none_in_runs, own_first, run_first, same_first, use_first}
use Rattle.pd_restore.proofs.shape_lines.DeviceLines.next.Goals as goal

pub returns-in-Some-clause-some : goal.returns-in-Some-clause-some
returns-in-Some-clause-some c =
    let l = c.pieces.self in
    let h = c.args.saved.now in
    let new : DeviceLines = record { devices = l.devices; pieces = l.pieces; runs = c.next.new.self } in
    let later = behind l.pieces h.pieces in
    c.pieces.invariant
    ∙ (run_first (in_runs l.runs h.runs) (in_runs c.next.new.self h.runs) (in_span l.pieces h.pieces) later later (in_span l.devices h.devices) (behind_runs l.runs h.runs) (behind_runs c.next.new.self h.runs)
    (rw c.runs.ensures at c.next.ensures.behind) c.in-Some.run' (rw c.runs.ensures at c.in-Some.ensures.some)
    ∙ ap (λ (line : Line). line ∷ device_lines new h) (sym c.map_line.ensures))

pub pieces-preserved : goal.pieces-preserved
pieces-preserved c =
    let l = c.pieces.self in
    let h = c.args.saved.now in
    let k = c.in-Own.runs in
    let mid = c.next.new.self in
    let begun : RunSpan = record { at = mid.at; left = k } in
    let pieces = c.next-in-pieces.new.self in
    let same = rw c.runs.ensures at c.next.ensures.behind in
    let ended = c.in_default.ensures.ended in
    c.pieces.invariant
    ∙ own_first k (in_runs l.runs h.runs) (in_runs begun h.runs) (in_span l.pieces h.pieces) (in_span pieces h.pieces) (in_span l.devices h.devices) (behind l.pieces h.pieces) (behind pieces h.pieces)
    (behind_runs l.runs h.runs) (behind_runs begun h.runs) (rw c.runs.ensures at c.in_default.ensures.none)
    ((rw c.pieces-in-pieces.ensures at c.in-Some-next.ensures.some) ∙ ap (λ (p : SavedPiece). p ∷ in_span pieces h.pieces) (sym c.piece.ensures ∙ c.in-Own.is))
    (begun_in_runs mid begun h.runs ended refl ∙ ap (take k) same) (begun_behind_runs mid begun h.runs ended refl ∙ ap (drop k) same)
    (rw c.pieces-in-pieces.ensures at c.next-in-pieces.ensures.behind)

pub returns-in-Shared-clause-some : goal.returns-in-Shared-clause-some
returns-in-Shared-clause-some c =
    let l = c.pieces.self in
    let h = c.args.saved.now in
    let mid = c.next.new.self in
    let pieces = c.next-in-pieces.new.self in
    c.pieces.invariant
    ∙ use_first (in_runs l.runs h.runs) (in_runs mid h.runs) (in_span l.pieces h.pieces) (behind l.pieces h.pieces) (behind pieces h.pieces) (in_span l.devices h.devices) (behind_runs l.runs h.runs) (behind_runs mid h.runs)
    (rw c.runs.ensures at c.next.ensures.behind) c.in-Shared.number (in_span pieces h.pieces) (rw c.runs.ensures at c.in_default.ensures.none) (none_in_runs mid h.runs c.in_default.ensures.ended)
    ((rw c.pieces-in-pieces.ensures at c.in-Some-next.ensures.some) ∙ ap (λ (p : SavedPiece). p ∷ in_span pieces h.pieces) (sym c.piece.ensures ∙ c.in-Shared.is))
    (rw c.pieces-in-pieces.ensures at c.next-in-pieces.ensures.behind)

pub returns-in-None-clause-some : goal.returns-in-None-clause-some
returns-in-None-clause-some c =
    let l = c.pieces.self in
    let h = c.args.saved.now in
    let mid = c.next.new.self in
    let pieces = c.next-in-pieces.new.self in
    let same =
    same_first (in_runs l.runs h.runs) (in_runs mid h.runs) (in_span l.pieces h.pieces) (behind l.pieces h.pieces) (behind pieces h.pieces) (in_span l.devices h.devices) (behind_runs l.runs h.runs) (behind_runs mid h.runs)
    (rw c.runs.ensures at c.next.ensures.behind) (in_span pieces h.pieces) (rw c.runs.ensures at c.in_default.ensures.none) (none_in_runs mid h.runs c.in_default.ensures.ended)
    (rw c.pieces-in-pieces.ensures at c.in-None.ensures.none) (none_in pieces h.pieces c.in-None.ensures.ended) (rw c.pieces-in-pieces.ensures at c.next-in-pieces.ensures.behind) in
    IfSome_then c.next_device.result c.next_device.ensures.some (λ line gives. c.pieces.invariant ∙ (same ∙ gives))

pub returns-in-None-clause-none : goal.returns-in-None-clause-none
returns-in-None-clause-none c =
    let l = c.pieces.self in
    let h = c.args.saved.now in
    let mid = c.next.new.self in
    let pieces = c.next-in-pieces.new.self in
    let same =
    same_first (in_runs l.runs h.runs) (in_runs mid h.runs) (in_span l.pieces h.pieces) (behind l.pieces h.pieces) (behind pieces h.pieces) (in_span l.devices h.devices) (behind_runs l.runs h.runs) (behind_runs mid h.runs)
    (rw c.runs.ensures at c.next.ensures.behind) (in_span pieces h.pieces) (rw c.runs.ensures at c.in_default.ensures.none) (none_in_runs mid h.runs c.in_default.ensures.ended)
    (rw c.pieces-in-pieces.ensures at c.in-None.ensures.none) (none_in pieces h.pieces c.in-None.ensures.ended) (rw c.pieces-in-pieces.ensures at c.next-in-pieces.ensures.behind) in
    subst (λ (lines : List Line). IfNone c.next_device.result (lines ≡ [])) (sym (c.pieces.invariant ∙ same)) c.next_device.ensures.none
