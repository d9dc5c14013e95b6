use Rattle.pd_kinds.specs.Graph.{block_at}
use Rattle.pd_kinds.specs.ThinFormat.{thin_fields}
use Rattle.pd_laws_answers.proofs.LostFound.{always_found, holds_no_earlier}
use Rattle.pd_laws_answers.proofs.searches.lost_pool_is_repaired.Goals as goal

pub returns-clause-roots : goal.returns-clause-roots
returns-clause-roots c image lost from to transaction block_size before after is answered =
    always_found image lost transaction block_size before after is (c.lost_pools_are_found.ensures image lost is.is is.sound is.lost_of)
    (c.searched_pool_is_clean.ensures.none from to transaction block_size (thin_fields (block_at image 0)).data_map.blocks before after answered)

pub returns-clause-state : goal.returns-clause-state
returns-clause-state c image lost from to transaction block_size before after is fit answered =
    holds_no_earlier image lost transaction block_size before after is (c.lost_pools_are_found.ensures image lost is.is is.sound is.lost_of)
    (c.searched_pool_is_clean.ensures.found from to transaction block_size (thin_fields (block_at image 0)).data_map.blocks before after fit answered)
