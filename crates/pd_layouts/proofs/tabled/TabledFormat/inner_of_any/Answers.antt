use Rattle.std.proofs.Common.{refl}
use Rattle.pd_layouts.proofs.tabled.TabledFormat.inner_of_any.Goals as goal

pub returns-in-Some : goal.returns-in-Some
returns-in-Some g c = rw (c.in-Some.ensures.some c.args.self.now.nr) c.is_inner.ensures

pub returns-in-None : goal.returns-in-None
returns-in-None g c = rw (c.in-None.ensures.none c.args.self.now.nr) refl
