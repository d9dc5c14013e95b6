use Rattle.std.proofs.Common.{arith}
use Rattle.pd_layouts.proofs.Rows.{no_data}
use Rattle.pd_layouts.proofs.tabled.TabledFormat.data_ref_of_any.Goals as goal

pub data_of_node-requires : goal.data_of_node-requires
data_of_node-requires g c = rw (c.in-Some.ensures.some c.args.self.now.nr) at c.requires.within

pub returns-in-Some : goal.returns-in-Some
returns-in-Some g c = rw (c.in-Some.ensures.some c.args.self.now.nr) c.data_of_node.ensures

pub returns-in-None : goal.returns-in-None
returns-in-None g c =
    let none = rw (no_data _ c.args.b.now.0 (c.in-None.ensures.none c.args.self.now.nr)) at c.requires.within in
    absurd (omega arith)
