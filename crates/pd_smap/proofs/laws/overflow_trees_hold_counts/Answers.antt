use Rattle.pd_kinds.specs.Trees.{entries_below}
use Rattle.pd_smap.proofs.OverflowLeftLemmas.{overflow_entries}
use Rattle.pd_smap.proofs.laws.overflow_trees_hold_counts.Goals as goal

pub returns-clause-searchable : goal.returns-clause-searchable
returns-clause-searchable c = c.cursors_give_entries.ensures.searchable

pub returns-clause-entries : goal.returns-clause-entries
returns-clause-entries c = λ graph image b role is sound.
    overflow_entries image b (entries_below graph image 4 role b) (c.cursors_give_entries.ensures.entries graph image b role is sound)
