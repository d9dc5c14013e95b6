use Rattle.std.proofs.Common.{◌∙◌}
use Rattle.pd_query.proofs.QueryLemmas.{one_told}
use Rattle.pd_query.proofs.QueryLemmas.{ends_as, puts_as}
use Rattle.pd_dumps.proofs.cache.TextOfCacheQuery.put.Goals as goal

pub returns-clause-text : goal.returns-clause-text
returns-clause-text g c = puts_as (one_told (g.D.Device.state c.args.dev.now).held (λ image own text is none. is ∙ own none) c.requires.over) c.put.ensures.text

pub returns-clause-faults : goal.returns-clause-faults
returns-clause-faults g c = ends_as _ _ _ _ _ c.put.ensures.faults
