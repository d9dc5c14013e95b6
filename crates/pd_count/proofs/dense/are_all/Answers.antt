use Rattle.std.proofs.Common.{◌+◌, ◌-◌, arith, rules}
use Rattle.pd_count.proofs.FormLemmas.{low_run}
use Rattle.pd_count.proofs.dense.are_all.Goals as goal

pub returns-then-wanted-lt256 : goal.returns-then-wanted-lt256
returns-then-wanted-lt256 c = λ all.
    low_run c.args.digits.now c.args.at c.args.len (c.args.at + c.args.len - c.args.at) c.args.wanted (omega arith) c.requires.places (omega arith) (search rules)
