use Rattle.std.proofs.Common.{ap}
use Rattle.pd_settle.specs.Notes.{greatest_of}
use Rattle.pd_settle.proofs.ChainLemmas.{greatest_from, greatest_by, greatest_none}
use Rattle.pd_settle.proofs.telling.greatest_is_the_greatest_key.Goals as goal

pub returns-clause-some : goal.returns-clause-some
returns-clause-some c keys key = (greatest_from keys key, greatest_by keys key)

pub returns-clause-none : goal.returns-clause-none
returns-clause-none c keys = (greatest_none keys, ap greatest_of)
