use Rattle.pd_laid.proofs.NeedLemmas.{length-inners, length-tree, length-array, length-map_blocks}
use Rattle.pd_laid.proofs.images.parts_take_their_need.Goals as goal

pub returns-clause-levels : goal.returns-clause-levels
returns-clause-levels c = length-inners

pub returns-clause-tree : goal.returns-clause-tree
returns-clause-tree c = length-tree

pub returns-clause-array : goal.returns-clause-array
returns-clause-array c = length-array

pub returns-clause-meta_map : goal.returns-clause-meta_map
returns-clause-meta_map c = length-map_blocks
