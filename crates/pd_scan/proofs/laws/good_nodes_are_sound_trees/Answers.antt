use Rattle.pd_scan.proofs.SoundLemmas.{good_is_sound}
use Rattle.pd_scan.proofs.laws.good_nodes_are_sound_trees.Goals as goal

pub returns : goal.returns
returns c graph image role fit lawful known told b small = good_is_sound graph image lawful role fit known told b small
