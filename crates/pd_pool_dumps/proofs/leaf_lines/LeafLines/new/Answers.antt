use Rattle.pd_pool_dumps.proofs.LeafTextLemmas.{taken_none}
use Rattle.pd_pool_dumps.proofs.leaf_lines.LeafLines.new.Goals as goal

pub returns : goal.returns
returns c = taken_none c.new-2.result c.new.result c.none.result c.new-2.ensures c.new.ensures c.none.ensures
