use Rattle.std.proofs.Common.{refl}
use Rattle.pd_answers.specs.Words.{request_of}
use Rattle.pd_words.proofs.words.read_shrink.Goals as goal

pub returns-clause-asked : goal.returns-clause-asked
unfolding request_of
returns-clause-asked c =
    rw (← c.in_ok-shared.ensures, ← c.in_ok-input.ensures, ← c.in_ok-output.ensures, ← c.in_ok-pool.ensures, ← c.in_ok-blocks.ensures.number)
    refl
