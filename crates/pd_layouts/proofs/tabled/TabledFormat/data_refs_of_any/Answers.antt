use Rattle.std.proofs.Common.{refl}
use Rattle.pd_layouts.proofs.Rows.{no_data}
use Rattle.pd_layouts.proofs.tabled.TabledFormat.data_refs_of_any.Goals as goal

pub returns-in-Some : goal.returns-in-Some
returns-in-Some g c = rw (c.in-Some.ensures.some c.args.self.now.nr) c.data_count.ensures

pub returns-in-None : goal.returns-in-None
returns-in-None g c = rw (no_data _ c.args.b.now.0 (c.in-None.ensures.none c.args.self.now.nr)) refl
