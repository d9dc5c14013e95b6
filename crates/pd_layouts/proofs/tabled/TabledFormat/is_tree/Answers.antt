use Rattle.std.proofs.Common.{refl}
use Rattle.pd_kinds.specs.Layout.{graph_of}
use Rattle.pd_layouts.proofs.tabled.TabledFormat.is_tree.Goals as goal

pub returns-in-Some : goal.returns-in-Some
unfolding graph_of
returns-in-Some g c = rw (c.in-Some.ensures.some c.args.self.now.nr) refl

pub returns-in-None : goal.returns-in-None
unfolding graph_of
returns-in-None g c = rw (c.in-None.ensures.none c.args.self.now.nr) refl
