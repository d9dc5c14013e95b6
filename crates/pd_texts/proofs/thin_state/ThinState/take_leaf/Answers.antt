use Rattle.std.proofs.Common.{get_or, arith}
use Rattle.std.proofs.lemmas.Bool.Decides.{nat_tests}
use Rattle.pd_texts.proofs.StateLemmas.{leaf_passed}
use Rattle.pd_texts.proofs.thin_state.ThinState.take_leaf.Goals as goal

pub returns-clause-after : goal.returns-clause-after
returns-clause-after c = λ before stands some room.
    let number = get_or c.args.numbers.now 0 0 in
    let entries = get_or c.args.numbers.now 1 0 in
    leaf_passed c.args.self.now entries c.begin.new.self before stands some number (grind (arith, nat_tests, c.if-not-fits.false))
    (c.begin.ensures room before (record { number = number; entries = entries }) stands.leaves)
