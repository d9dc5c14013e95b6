use Rattle.std.proofs.Common.{◌+◌, eqb, arith}
use Rattle.std.specs.List.{range_with_len}
use Rattle.std.proofs.lemmas.List.Sums.{count_by-le-length}
use Rattle.std.proofs.lemmas.List.FromFn.{length-range_with_len}
use Rattle.pd_count.specs.Counted.{count_of}
use Rattle.pd_devices.proofs.GatheredNeed.{passing_more}
use Rattle.pd_devices.proofs.shared_devices.thirds_in.Goals as goal

pub loop-i-preserved : goal.loop-i-preserved
loop-i-preserved c =
    let first = c.args.first in
    let i = c.loop-i.i in
    let more = passing_more (λ d. eqb (count_of c.args.counts.now d) 2) first i in
    let all = count_by-le-length (λ d. eqb (count_of c.args.counts.now d) 2) (range_with_len first (i + 1)) in
    let before = c.loop-i.invariant in
    record {
      thirds = omega (arith, more, before.thirds, c.is_third-thirds.ensures);
      most = omega (arith, more, before.thirds, c.is_third-thirds.ensures, all, length-range_with_len first (i + 1));
    }
