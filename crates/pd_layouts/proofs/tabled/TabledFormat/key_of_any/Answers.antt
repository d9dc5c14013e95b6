use Rattle.std.proofs.Common.{arith}
use Rattle.pd_layouts.proofs.Rows.{no_keys}
use Rattle.pd_layouts.proofs.tabled.TabledFormat.key_of_any.Goals as goal

pub key_of-requires : goal.key_of-requires
key_of-requires g c = rw (c.in-Some.ensures.some c.args.self.now.nr) at c.requires.within

pub returns-in-Some : goal.returns-in-Some
returns-in-Some g c = rw (c.in-Some.ensures.some c.args.self.now.nr) c.key_of.ensures

pub returns-in-None : goal.returns-in-None
returns-in-None g c =
    let none = rw (no_keys _ c.args.b.now.0 (c.in-None.ensures.none c.args.self.now.nr)) at c.requires.within in
    absurd (omega arith)
