use Rattle.pd_check.proofs.KnownLemmas.{keys_up}
use Rattle.pd_check.proofs.laws.keys_of_sound_trees_ascend.Goals as goal

pub returns : goal.returns
returns c = keys_up
