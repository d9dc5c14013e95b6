use Rattle.std.proofs.Common.{true, nat_lt, arith}
use Rattle.pd_cache.proofs.WordLemmas.{unseen_less}
use Rattle.pd_cache.proofs.origins.Origins.add.Goals as goal

pub add_words-number-requires : goal.add_words-number-requires
add_words-number-requires c =
    let origins = c.args.self.now in
    let less = unseen_less origins.seen.items c.args.b true c.requires.block c.requires.unseen in
    omega (arith, origins.room, less)

pub invariant_of-self : goal.invariant_of-self
invariant_of-self c =
    let origins = c.args.self.now in
    let less = unseen_less origins.seen.items c.args.b (nat_lt 0 c.add_words-number.result) c.requires.block c.requires.unseen in
    record { room = omega (arith, origins.room, c.add_words-number.ensures.few, c.add_words-number.ensures.room, c.widen.ensures.few, c.widen.ensures.room, less) }
