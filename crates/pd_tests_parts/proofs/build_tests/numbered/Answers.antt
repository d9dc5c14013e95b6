use Rattle.std.proofs.Common.{◌^◌, nat_lt, arith}
use Rattle.std.proofs.lemmas.Bool.{lt-ltb}
use Rattle.pd_value.specs.declared.thin.Root.{Root}
use Rattle.pd_build.proofs.OrderLemmas.{in_order_none, in_order_more}
use Rattle.pd_tests_parts.proofs.build_tests.numbered.Goals as goal

pub loop-i-init : goal.loop-i-init
loop-i-init c = let none = c.new-items.ensures.items in rw none (in_order_none (λ (root : Root). nat_lt root.0 (2 ^ 64)) 0)

pub loop-i-preserved : goal.loop-i-preserved
loop-i-preserved c =
    let items = c.in_ok-push.ensures.items in
    rw items
    (in_order_more (λ (root : Root). nat_lt root.0 (2 ^ 64)) c.loop-i.items.items c.loop-i.i c.loop-i.i _ c.loop-i.invariant (omega arith) (lt-ltb c.loop-i.i (2 ^ 64) (omega arith)))
