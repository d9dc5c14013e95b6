use Rattle.pd_measures.proofs.SoundLemmas.{sound_tree_is}
use Rattle.pd_measures.proofs.laws.found_trees_are_sound.Goals as goal

pub returns : goal.returns
returns c graph image role root lawful known sound =
    sound_tree_is graph image lawful (c.reached_by_paths.ensures.any graph image) role root known sound
