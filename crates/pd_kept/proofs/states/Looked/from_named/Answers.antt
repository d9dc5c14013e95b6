use Rattle.std.proofs.Common.{refl}
use Rattle.pd_kept.specs.States.{looked_text}
use Rattle.pd_kept.proofs.states.Looked.from_named.Goals as goal

pub returns : goal.returns
unfolding looked_text
returns c = rw (c.none.ensures.best, c.none.ensures.number, c.none-2.ensures.best, c.none-2.ensures.number) refl
