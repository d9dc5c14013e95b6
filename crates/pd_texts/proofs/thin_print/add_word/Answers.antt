use Rattle.std.proofs.Common.{length, length-append, ap, arith, decimal, [], ◌∷◌}
use Rattle.pd_grammar.proofs.WordLemmas.{small_numbers_short}
use Rattle.pd_texts.proofs.thin_print.add_word.Goals as goal

pub returns-clause-small : goal.returns-clause-small
returns-clause-small c = λ small.
    omega (arith, small_numbers_short (c.args.number ∷ []) (small, tt), ap length c.add_number.ensures.bytes, length-append c.add.new.self (decimal c.args.number), c.add.ensures.len)
