use Rattle.pd_kinds.specs.Trees.{entries_below}
use Rattle.pd_smap.proofs.OverflowLeftLemmas.{index_keys, index_stored}
use Rattle.pd_smap.proofs.laws.index_trees_name_bitmaps.Goals as goal

pub returns-clause-keys : goal.returns-clause-keys
returns-clause-keys c = λ graph image b role is sound.
    index_keys image b (entries_below graph image 16 role b) (c.cursors_give_entries.ensures.entries graph image b role is sound)

pub returns-clause-stored : goal.returns-clause-stored
returns-clause-stored c = λ graph image b role d overflow is sound.
    index_stored image b d (entries_below graph image 16 role b) overflow (c.cursors_give_entries.ensures.entries graph image b role is sound)
