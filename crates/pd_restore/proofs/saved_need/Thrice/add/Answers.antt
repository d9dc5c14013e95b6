use Rattle.std.proofs.Common.{◌<◌, ◌+◌, arith, sym, ◌∙◌, ap}
use Rattle.pd_devices.specs.Counts.{overflows_of}
use Rattle.pd_devices.proofs.CountLemmas.{overflows_third, overflows_other, overflows-le}
use Rattle.pd_restore.proofs.saved_need.Thrice.add.Goals as goal

pub overflow_add-self : goal.overflow_add-self
overflow_add-self c =
    let counts = c.self.inside.counts in
    let within : c.args.b < counts.size = rw c.self.view_is c.requires.within in
    let more = overflows_third c.args.b counts.size counts c.add.new.self c.in_ok-add.ensures.added within (sym c.get-before.ensures ∙ c.if-before-eq2.true) in
    omega (arith, more, c.self.invariant, overflows-le c.add.new.self counts.size, c.size-blocks.ensures.size)

pub invariant_of-self-then-before-eq2 : goal.invariant_of-self-then-before-eq2
invariant_of-self-then-before-eq2 c =
    let counts = c.self.inside.counts in
    let adds = c.in_ok-add.ensures.added in
    let within : c.args.b < counts.size = rw c.self.view_is c.requires.within in
    let more = overflows_third c.args.b counts.size counts c.add.new.self adds within (sym c.get-before.ensures ∙ c.if-before-eq2.true) in
    ap (λ n. n + 1) c.self.invariant ∙ (sym more ∙ ap (overflows_of c.add.new.self) (sym adds.size))

pub invariant_of-self-else-before-eq2 : goal.invariant_of-self-else-before-eq2
invariant_of-self-else-before-eq2 c =
    let counts = c.self.inside.counts in
    let adds = c.in_ok-add.ensures.added in
    let within : c.args.b < counts.size = rw c.self.view_is c.requires.within in
    let same = overflows_other c.args.b counts.size counts c.add.new.self adds within (λ two. c.if-before-eq2.false (c.get-before.ensures ∙ two)) in
    c.self.invariant ∙ (sym same ∙ ap (overflows_of c.add.new.self) (sym adds.size))
