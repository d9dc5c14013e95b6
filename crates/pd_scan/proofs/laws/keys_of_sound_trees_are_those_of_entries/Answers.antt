use Rattle.pd_scan.proofs.EntryLemmas.{keys_of_sound}
use Rattle.pd_scan.proofs.laws.keys_of_sound_trees_are_those_of_entries.Goals as goal

pub returns : goal.returns
returns c roles nr data_blocks layout t image role b lawful known is_tree sound =
    keys_of_sound roles nr data_blocks layout t image role lawful known is_tree b sound
