use Rattle.std.proofs.Common.{refl}
use Rattle.pd_salvage_shapes.proofs.VisitingLemmas.{next_number}
use Rattle.pd_salvage_shapes.proofs.numbers.Numbers.add.Goals as goal

pub returns-then-goes_on_with : goal.returns-then-goes_on_with
returns-then-goes_on_with c = rw (← c.self.view_is) (next_number c.self.inside.done.items c.self.inside.last c.args.number (c.if-goes_on_with.ensures.next refl))
