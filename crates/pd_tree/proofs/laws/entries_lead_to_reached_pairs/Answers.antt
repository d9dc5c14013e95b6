use Rattle.pd_kinds.specs.Trees.{entries_below}
use Rattle.pd_tree.proofs.SoundLemmas.{all_lead}
use Rattle.pd_tree.proofs.ReachLemmas.{met}
use Rattle.pd_tree.proofs.SoundLemmas.{sound}
use Rattle.pd_tree.proofs.laws.entries_lead_to_reached_pairs.Goals as goal

pub returns : goal.returns
unfolding entries_below
returns c = λ graph image b role size next named to lawful ordered reached.
    let paths = c.reached_by_paths.ensures.super_block graph image in
    all_lead graph image role size next named to lawful paths 63 b (sound graph image lawful paths ordered b role reached).rules (met graph image lawful paths b role reached)
