use Rattle.std.proofs.Common.{ap}
use Rattle.pd_settle.specs.Notes.{least_of}
use Rattle.pd_settle.proofs.ChainLemmas.{least_from, least_by, least_none}
use Rattle.pd_settle.proofs.telling.least_is_the_least_key.Goals as goal

pub returns-clause-some : goal.returns-clause-some
returns-clause-some c keys key = (least_from keys key, least_by keys key)

pub returns-clause-none : goal.returns-clause-none
returns-clause-none c keys = (least_none keys, ap least_of)
