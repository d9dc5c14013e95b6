use Rattle.std.proofs.Common.{◌≡◌, ◌++◌, ◌∙◌, Some, None, cond, subst, sym, ap}
use Rattle.std.specs.List.{slice_get}
use Rattle.std.proofs.lemmas.Option.{slice_get-get_or}
use Rattle.pd_salvage_shapes.specs.Pieces.{IsPiecing}
use Rattle.pd_salvage_shapes.specs.Visiting.{mets_at}
use Rattle.pd_salvage_shapes.proofs.MetPieces.{some_met}
use Rattle.pd_salvage_shapes.proofs.pieces.Piecing.take_at.Goals as goal

pub number_of-number-requires : goal.number_of-number-requires
number_of-number-requires c =
    let notes = c.args.notes.now in
    let k = c.args.k in
    let note = c.index-notes-k.result in
    let at : slice_get notes k ≡ Some note = slice_get-get_or notes k note c.requires.within ∙ ap Some (sym c.index-notes-k.is) in
    c.requires.sized.within k note at

pub take_met-requires : goal.take_met-requires
take_met-requires c =
    let notes = c.args.notes.now in
    let k = c.args.k in
    let note = c.index-notes-k.result in
    let at : slice_get notes k ≡ Some note = slice_get-get_or notes k note c.requires.within ∙ ap Some (sym c.index-notes-k.is) in
    c.requires.sized.runs k note at

pub returns : goal.returns
returns c = λ ones pieces runs done are is.
    let notes = c.args.notes.now in
    let k = c.args.k in
    let note = c.index-notes-k.result in
    let number = c.number_of-number.ensures in
    let at : slice_get notes k ≡ Some note = slice_get-get_or notes k note c.requires.within ∙ ap Some (sym c.index-notes-k.is) in
    subst (λ o. IsPiecing ones pieces runs c.take_met.new.self (done ++ mets_at o)) (sym at)
    (c.in_ok-take_met.ensures ones pieces runs done (cond note.full (Some note.block) None) (number.number ones are)
    (some_met note c.number_of-number.result number.whole (c.requires.sized.some k note at)) is)
