use Rattle.std.proofs.Common.{rules}
use Rattle.pd_answers.specs.KeptCache.{with_roots}
use Rattle.pd_answers.proofs.request.CacheRoots.over.Goals as goal

-- src/request.rt:43:5
pub returns : goal.returns
unfolding with_roots
returns c = search rules
