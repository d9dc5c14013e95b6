use Rattle.std.proofs.Common.{◌≡◌, ◌+◌, arith}
use Rattle.pd_grammar.specs.Need.{need_above}
use Rattle.pd_devices.proofs.growing.tree_begun.Goals as goal

pub returns-then-leaves-eq0 : goal.returns-then-leaves-eq0
unfolding need_above
returns-then-leaves-eq0 c =
    let none : c.args.own + c.args.uses ≡ 0 = c.if-leaves-eq0.true in
    rw none (omega (arith, none))

pub overflow_add-result : goal.overflow_add-result
overflow_add-result c = omega (arith, c.requires, c.need_upper.ensures.fewer)
