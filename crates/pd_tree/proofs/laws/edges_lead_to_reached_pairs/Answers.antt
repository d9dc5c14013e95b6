use Rattle.pd_tree.proofs.ReachLemmas.{met, start_reached, edges_reached}
use Rattle.pd_tree.proofs.laws.edges_lead_to_reached_pairs.Goals as goal

pub returns-clause-start : goal.returns-clause-start
returns-clause-start c = λ graph image lawful. start_reached graph image lawful (c.reached_by_paths.ensures.super_block graph image)

pub returns-clause-edges : goal.returns-clause-edges
returns-clause-edges c = λ graph image b role lawful reached.
    let paths = c.reached_by_paths.ensures.super_block graph image in
    edges_reached graph image lawful paths b role reached.within (met graph image lawful paths b role reached)
