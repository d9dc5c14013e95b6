use Rattle.std.proofs.Common.{ℕ, ◌-◌, sym, subst, arith}
use Rattle.pd_count.specs.Counted.{count_of}
use Rattle.pd_smwrite.proofs.FreeLemmas.{IsTakenOff, taken_start, taken_next, taken_end}
use Rattle.pd_smwrite.proofs.index.allocated.Goals as goal

pub loop-i-init : goal.loop-i-init
loop-i-init c =
    let counts = c.args.counts.now in
    subst (λ (left : ℕ). IsTakenOff (count_of counts) counts.size 0 left) (sym c.size-allocated.ensures.size) (taken_start (count_of counts) counts.size)

pub overflow_sub-allocated : goal.overflow_sub-allocated
overflow_sub-allocated c = omega (arith, c.loop-i.invariant.most, c.free_in.ensures.covered)

pub loop-i-preserved : goal.loop-i-preserved
loop-i-preserved c =
    let counts = c.args.counts.now in
    taken_next (count_of counts) counts.size c.loop-i.i c.loop-i.allocated c.free_in.result (c.loop-i.allocated - c.free_in.result) c.loop-i.invariant
    (omega (arith, c.bitmap_number-i-end.ensures)) c.free_in.ensures.free (omega (arith, c.loop-i.invariant.most, c.free_in.ensures.covered))

pub returns : goal.returns
returns c =
    let counts = c.args.counts.now in
    taken_end (count_of counts) counts.size c.loop-i.i c.loop-i.allocated c.loop-i.invariant (omega (arith, c.bitmap_number-i-end.ensures))
