use Rattle.pd_laws_laid.proofs.Trees.{tree_seen}
use Rattle.pd_laws_laid.proofs.graph.laid_tree_is_seen.Goals as goal

pub returns : goal.returns
returns c roles nr data_blocks table image blocks limit role t place items is known few_roles wide few within from room items_are stand named =
    tree_seen roles nr data_blocks table image blocks limit role t is known few_roles wide few within place items from room items_are stand named
