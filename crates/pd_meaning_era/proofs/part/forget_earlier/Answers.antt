use Rattle.std.proofs.Common.{arith}
use Rattle.pd_meaning_era.proofs.RaiseLemmas.{least_lower, none_taken}
use Rattle.pd_kinds.specs.Meaning.{is_bit_set}
use Rattle.pd_meaning_era.proofs.part.forget_earlier.Goals as goal

pub returns-then-latest-era : goal.returns-then-latest-era
returns-then-latest-era c = λ eras low. none_taken c.args.era c.clear.new.taken eras c.clear.ensures

pub returns-else-latest-era : goal.returns-else-latest-era
returns-else-latest-era c = λ eras low. least_lower c.args.latest c.args.era (is_bit_set c.args.taken.now) eras (omega arith) low
