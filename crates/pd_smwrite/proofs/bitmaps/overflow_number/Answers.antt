use Rattle.std.proofs.Common.{length, ap, arith}
use Rattle.pd_count.specs.Counted.{count_of}
use Rattle.pd_smwrite.proofs.OverflowLemmas.{items_start, items_next, items_end}
use Rattle.pd_smwrite.proofs.bitmaps.overflow_number.Goals as goal

pub loop-high-init : goal.loop-high-init
loop-high-init c =
    let counts = c.args.counts.now in
    let next = c.next_high-high.ensures in
    let all = ap length (items_start (count_of counts) counts.size c.next_high-high.result next.within next.between) in
    record { number = omega arith; few = omega arith; is_size = c.size-size.ensures.size; within = next.within; high = next.high }

pub loop-high-preserved : goal.loop-high-preserved
loop-high-preserved c =
    let counts = c.args.counts.now in
    let inv = c.loop-high.invariant in
    let next = c.next_high-high-in-loop-high.ensures in
    let above = next.behind in
    let less = c.loop-high-test.true in
    let is = inv.is_size in
    let so_far = inv.number in
    let few = inv.few in
    let rest = ap length (items_next (count_of counts) counts.size c.loop-high.high c.next_high-high-in-loop-high.result (omega arith) (inv.high (omega arith)) above next.within next.between) in
    record { number = omega arith; few = omega arith; is_size = is; within = next.within; high = next.high }

pub returns : goal.returns
returns c =
    let counts = c.args.counts.now in
    let inv = c.loop-high.invariant in
    let is = inv.is_size in
    let past = c.loop-high-test.false in
    let none = ap length (items_end (count_of counts) counts.size c.loop-high.high (omega arith)) in
    omega (arith, inv.number)
