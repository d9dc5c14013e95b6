use Rattle.std.proofs.Common.{arith, sym}
use Rattle.pd_devices.proofs.CountLemmas.{overflows_none}
use Rattle.pd_devices.proofs.counts.BlockCounts.new.Goals as goal

pub invariant_of-result : goal.invariant_of-result
invariant_of-result c =
    let none = c.in_ok-new.ensures.none in
    record { bounded = λ b. omega (arith, none b); overflows = sym (overflows_none c.in_ok-new.field-0 c.in_ok-new.field-0.size none) }
