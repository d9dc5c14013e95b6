use Rattle.std.proofs.Common.{◌≡◌, ◌++◌, Some, get_or, take, refl, ap, sym, ◌∙◌, arith}
use Rattle.std.specs.List.{slice_get}
use Rattle.std.proofs.lemmas.Option.{slice_get-get_or}
use Rattle.pd_salvage_shapes.specs.SeenShape.{leaves_of}
use Rattle.pd_salvage_shapes.specs.Visiting.{mets_of}
use Rattle.pd_salvage_shapes.proofs.LeafTable.{note_uses}
use Rattle.pd_salvage_shapes.proofs.uses.count_device.Goals as goal

pub loop-k-preserved : goal.loop-k-preserved
loop-k-preserved c =
    let notes = c.args.notes.now in
    let met = c.args.met.now in
    let i = c.loop-k.k-index in
    let note = c.index-notes-k.result in
    let at : slice_get notes (get_or met i 0) ≡ Some note = slice_get-get_or notes (get_or met i 0) note (c.requires.within i (omega arith)) ∙ ap Some (sym c.index-notes-k.is) in
    record {
      counted = λ blocks are. note_uses c.count_note.new.uses blocks notes met i (get_or met i 0) note (omega arith) refl at (c.count_note.ensures.counted (blocks ++ leaves_of (mets_of notes (take i met))) (c.loop-k.invariant.counted blocks are));
      same = c.count_note.ensures.same ∙ c.loop-k.invariant.same;
    }
