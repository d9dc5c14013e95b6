use Rattle.pd_laws_changed.proofs.UnusedBlocks.{mapped_by_none}
use Rattle.pd_laws_changed.proofs.unused.unused_blocks_are_mapped_by_none.Goals as goal

pub returns : goal.returns
returns c = λ until image d looks sound none. mapped_by_none image (c.pools_in_order_are_known.ensures until image looks sound) d none
