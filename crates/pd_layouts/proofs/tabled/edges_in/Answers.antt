use Rattle.pd_layouts.proofs.Rows.{index_number_is}
use Rattle.pd_layouts.proofs.tabled.edges_in.Goals as goal

pub returns-in-Index : goal.returns-in-Index
returns-in-Index g c =
    rw (c.in-Index.is, c.bitmaps_for.ensures) (index_number_is c.in-Index.field-0 c.args.nr c.args.b.now.0)
