use Rattle.pd_kinds.specs.Trees.{entries_below}
use Rattle.pd_tree.proofs.TreeLemmas.{lookup_entries}
use Rattle.pd_tree.proofs.OnceLemmas.{entries_are, searchable_is}
use Rattle.pd_tree.proofs.laws.cursors_give_entries.Goals as goal

pub returns-clause-entries : goal.returns-clause-entries
returns-clause-entries g c = λ graph image b role is sound. entries_are graph image b role g.V.Value.SIZE is sound g.V.Value.decoded

pub returns-clause-searchable : goal.returns-clause-searchable
returns-clause-searchable g c = λ graph image b role is sound. searchable_is graph image b role g.V.Value.SIZE is sound g.V.Value.decoded

pub returns-clause-values : goal.returns-clause-values
returns-clause-values g c = λ graph image b role key is sound.
    rw (entries_are graph image b role g.V.Value.SIZE is sound g.V.Value.decoded) (lookup_entries g.V.Value.decoded key (entries_below graph image g.V.Value.SIZE role b))
