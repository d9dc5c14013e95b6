use Rattle.std.proofs.Common.{◌+◌, ◌++◌, ◌∙◌, arith}
use Rattle.std.specs.List.{range_with_len}
use Rattle.pd_count.proofs.CountLemmas.{counts_listed}
use Rattle.pd_devices.proofs.CountLemmas.{counted_row}
use Rattle.pd_devices.proofs.counts.BlockCounts.add_run.Goals as goal

pub loop-i-preserved : goal.loop-i-preserved
loop-i-preserved c =
    let added = c.in_ok-add.ensures.added in
    let first = c.args.first in
    let i = c.loop-i.i in
    record {
      size = added.size ∙ c.loop-i.invariant.size;
      total = omega (arith, c.in_ok-add.ensures.total);
      listed = λ before counted. counted_row c.add.new.self.counts first i before
          (counts_listed (first + i) c.loop-i.self.counts c.add.new.self.counts added (range_with_len first i ++ before) (c.loop-i.invariant.listed before counted));
    }
