use Rattle.std.proofs.Common.{◌+◌, arith, sym, ◌∙◌, ap}
use Rattle.pd_devices.specs.Counts.{overflows_of}
use Rattle.pd_devices.proofs.CountLemmas.{overflows_third, overflows_other, overflows-le, counts_bounded}
use Rattle.pd_devices.proofs.counts.BlockCounts.add.Goals as goal

pub overflow_add-self-then-before-eq2 : goal.overflow_add-self-then-before-eq2
overflow_add-self-then-before-eq2 c =
    let size = c.args.self.now.counts.size in
    let adds = c.in_ok-before.ensures.added (omega (arith, c.args.self.now.bounded c.args.b, c.requires.few)) in
    let more = overflows_third c.args.b size c.args.self.now.counts c.saturating_add.new.self adds c.requires.within (sym c.in_ok-before.ensures.before ∙ c.if-before-eq2.true) in
    omega (arith, more, c.args.self.now.overflows, overflows-le c.saturating_add.new.self size, c.size-blocks.ensures.size)

pub invariant_of-self-then-before-eq2 : goal.invariant_of-self-then-before-eq2
invariant_of-self-then-before-eq2 c =
    let size = c.args.self.now.counts.size in
    let adds = c.in_ok-before.ensures.added (omega (arith, c.args.self.now.bounded c.args.b, c.requires.few)) in
    let more = overflows_third c.args.b size c.args.self.now.counts c.saturating_add.new.self adds c.requires.within (sym c.in_ok-before.ensures.before ∙ c.if-before-eq2.true) in
    record {
      bounded = counts_bounded c.args.b c.args.self.now.total c.args.self.now.counts c.saturating_add.new.self adds c.args.self.now.bounded;
      overflows = ap (λ n. n + 1) c.args.self.now.overflows ∙ (sym more ∙ ap (overflows_of c.saturating_add.new.self) (sym adds.size));
    }

pub invariant_of-self-else-before-eq2 : goal.invariant_of-self-else-before-eq2
invariant_of-self-else-before-eq2 c =
    let size = c.args.self.now.counts.size in
    let adds = c.in_ok-before.ensures.added (omega (arith, c.args.self.now.bounded c.args.b, c.requires.few)) in
    let same = overflows_other c.args.b size c.args.self.now.counts c.saturating_add.new.self adds c.requires.within (λ two. c.if-before-eq2.false (c.in_ok-before.ensures.before ∙ two)) in
    record {
      bounded = counts_bounded c.args.b c.args.self.now.total c.args.self.now.counts c.saturating_add.new.self adds c.args.self.now.bounded;
      overflows = c.args.self.now.overflows ∙ (sym same ∙ ap (overflows_of c.saturating_add.new.self) (sym adds.size));
    }
