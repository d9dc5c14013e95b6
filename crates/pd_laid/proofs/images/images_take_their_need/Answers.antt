use Rattle.pd_laid.proofs.CacheNeed.{cache_number}
use Rattle.pd_laid.proofs.NeedLemmas.{era_number}
use Rattle.pd_laid.proofs.images.images_take_their_need.Goals as goal

pub returns-clause-cache : goal.returns-clause-cache
returns-clause-cache c = cache_number

pub returns-clause-era : goal.returns-clause-era
returns-clause-era c = era_number
