use Rattle.std.proofs.Common.{refl}
use Rattle.pd_layouts.proofs.Rows.{no_keys}
use Rattle.pd_layouts.proofs.tabled.TabledFormat.keys_of_any.Goals as goal

pub returns-in-Some : goal.returns-in-Some
returns-in-Some g c = rw (c.in-Some.ensures.some c.args.self.now.nr) c.key_count.ensures

pub returns-in-None : goal.returns-in-None
returns-in-None g c = rw (no_keys _ c.args.b.now.0 (c.in-None.ensures.none c.args.self.now.nr)) refl
