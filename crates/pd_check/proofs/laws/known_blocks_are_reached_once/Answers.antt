use Rattle.pd_check.proofs.NodeLemmas.{known_once}
use Rattle.pd_check.proofs.laws.known_blocks_are_reached_once.Goals as goal

pub returns : goal.returns
returns c = known_once
