use Rattle.std.proofs.Common.{refl}
use Rattle.pd_layouts.proofs.Rows.{below_index, index_found}
use Rattle.pd_layouts.proofs.tabled.edge_in.Goals as goal

pub bitmap_named-requires-clause-within : goal.bitmap_named-requires-clause-within
bitmap_named-requires-clause-within g c = below_index c.in-Index.to c.args.nr c.args.b.now.0 c.args.i (rw c.in-Index.is at c.requires.within)

pub returns-in-Index : goal.returns-in-Index
returns-in-Index g c =
    rw c.in-Index.is
    (index_found c.in-Index.to c.args.nr c.args.b.now.0 c.args.i _ (rw c.in-Index.is at c.requires.within) (rw c.bitmap_named.ensures refl))
