use Rattle.pd_laid.proofs.GatherLemmas.{visits_give}
use Rattle.pd_laid.proofs.salvages.given_are_visited.Goals as goal

pub returns : goal.returns
returns c = visits_give
