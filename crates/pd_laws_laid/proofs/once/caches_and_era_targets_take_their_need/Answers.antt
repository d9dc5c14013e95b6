use Rattle.pd_laws_laid.proofs.NeedLemmas.{cache_takes_need, era_takes_need}
use Rattle.pd_laws_laid.proofs.once.caches_and_era_targets_take_their_need.Goals as goal

pub returns-clause-cache : goal.returns-clause-cache
returns-clause-cache c = cache_takes_need

pub returns-clause-era : goal.returns-clause-era
returns-clause-era c = λ m n one_each. era_takes_need m one_each n
