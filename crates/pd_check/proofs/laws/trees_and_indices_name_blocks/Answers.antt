use Rattle.pd_check.proofs.NamedLemmas.{tree_names, index_names}
use Rattle.pd_check.proofs.laws.trees_and_indices_name_blocks.Goals as goal

pub returns-clause-entries : goal.returns-clause-entries
returns-clause-entries c = λ graph image b role size next named to lawful ordered reached differ.
    tree_names graph image role size next named to differ b (c.reached_trees_are_sound.ensures.in_order graph image b role lawful ordered reached)

pub returns-clause-bitmaps : goal.returns-clause-bitmaps
returns-clause-bitmaps c = λ graph image b role next is ordered reached. index_names graph image role next b is (ordered.well_formed b role reached)
