use Rattle.std.proofs.Common.{arith}
use Rattle.pd_writeback.specs.Plan.{cached_of_hot}
use Rattle.pd_writeback.proofs.OverlaidLemmas.{stands_within}
use Rattle.pd_writeback.proofs.copying.copy_one.Goals as goal

pub returns-in-Ok-clause-crash : goal.returns-in-Ok-clause-crash
returns-in-Ok-clause-crash g c may_differ base may here =
    c.copy_blocks.ensures.crash may_differ base
    (λ b low high. may b (stands_within c.args.each (cached_of_hot c.args.one.now) b low (let least = c.min-count.ensures in omega arith))) here

pub returns-in-Err-Source-clause-crash : goal.returns-in-Err-Source-clause-crash
returns-in-Err-Source-clause-crash g c may_differ base may here =
    c.copy_blocks.ensures.crash may_differ base
    (λ b low high. may b (stands_within c.args.each (cached_of_hot c.args.one.now) b low (let least = c.min-count.ensures in omega arith))) here

pub returns-in-Err-Target-clause-crash : goal.returns-in-Err-Target-clause-crash
returns-in-Err-Target-clause-crash g c may_differ base may here =
    c.copy_blocks.ensures.crash may_differ base
    (λ b low high. may b (stands_within c.args.each (cached_of_hot c.args.one.now) b low (let least = c.min-count.ensures in omega arith))) here
