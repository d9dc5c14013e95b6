use Rattle.pd_laws_shapes.proofs.LeafCounts.{laid_counts}
use Rattle.pd_laws_shapes.proofs.shapes.laid_shapes_count_each_leaf_once.Goals as goal

pub returns : goal.returns
returns c = laid_counts
