use Rattle.std.proofs.Common.{get_or, sym}
use Rattle.std.proofs.lemmas.Bool.{eqb-true}
use Rattle.pd_salvage_shapes.proofs.OnceLemmas.{forgotten, still_sized}
use Rattle.pd_salvage_shapes.proofs.once.forget_once.Goals as goal

pub returns-clause-others : goal.returns-clause-others
returns-clause-others c =
    forgotten c.args.times.now c.args.k c.args.notes.now c.no_note.result (eqb-true (get_or c.args.times.now c.args.k 0) 1 (sym c.if-not-is_once.ensures))

pub returns-clause-sized : goal.returns-clause-sized
returns-clause-sized c = λ blocks sized.
    still_sized blocks c.args.k c.args.notes.now c.no_note.result c.requires c.no_note.ensures.part c.no_note.ensures.sound sized
