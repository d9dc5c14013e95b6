use Rattle.std.proofs.Common.{refl}
use Rattle.pd_salvage.specs.Way.{is_undamaged}
use Rattle.pd_salvage.specs.Way.{frontier}
use Rattle.pd_salvage.proofs.cursor.SavedCursor.forget.Goals as goal

pub returns-clause-left : goal.returns-clause-left
unfolding frontier
returns-clause-left g c = λ image. rw (c.forget.ensures.stack, c.forget.ensures.ranges) refl

pub returns-clause-knows : goal.returns-clause-knows
returns-clause-knows g c = λ image. c.forget.ensures.knows (is_undamaged g.V.Value.SIZE) image
