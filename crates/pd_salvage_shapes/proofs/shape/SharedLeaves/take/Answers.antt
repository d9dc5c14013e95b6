use Rattle.std.proofs.Common.{◌≡◌, ◌-◌, true, get_or, nat_eq, Some, ap, sym, ◌∙◌, arith, eq-eqb}
use Rattle.std.specs.List.{slice_get}
use Rattle.std.proofs.lemmas.Option.{slice_get-get_or}
use Rattle.std.proofs.lemmas.Bool.{ne_eqb}
use Rattle.pd_salvage_shapes.proofs.SharedLemmas.{added, skipped}
use Rattle.pd_salvage_shapes.proofs.shape.SharedLeaves.take.Goals as goal

pub returns-then-uses-b-ne2 : goal.returns-then-uses-b-ne2
returns-then-uses-b-ne2 c = λ is.
    skipped c.args.uses.now c.args.places.now c.args.notes.now c.args.b c.args.self.now c.skip.new.self is (ne_eqb (get_or c.args.uses.now c.args.b 0) 2 c.if-uses-b-ne2.true)
    c.in_ok-skip.ensures.0 c.in_ok-skip.ensures.1 c.in_ok-skip.ensures.2

pub returns : goal.returns
returns c = λ is.
    let notes = c.args.notes.now in
    let place = get_or c.args.places.now c.args.b 0 in
    let note = c.index-notes-places.result in
    let twice : nat_eq (get_or c.args.uses.now c.args.b 0) 2 ≡ true = eq-eqb (get_or c.args.uses.now c.args.b 0) 2 c.if-uses-b-ne2.false in
    let named = c.requires.named c.args.b c.requires.within twice in
    let at : slice_get notes (place - 1) ≡ Some note = slice_get-get_or notes (place - 1) note (omega arith) ∙ ap Some (sym c.index-notes-places.is) in
    added c.args.uses.now c.args.places.now notes c.args.b c.args.self.now c.add.new.self is note twice at (c.requires.counted (place - 1) note at) c.in_ok-add.ensures
