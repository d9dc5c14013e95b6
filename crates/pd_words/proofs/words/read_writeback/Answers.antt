use Rattle.std.proofs.Common.{refl}
use Rattle.pd_answers.specs.Words.{request_of}
use Rattle.pd_words.proofs.words.read_writeback.Goals as goal

pub returns-clause-asked : goal.returns-clause-asked
unfolding request_of
returns-clause-asked c =
    rw (← c.in_ok-metadata.ensures, ← c.in_ok-fast.ensures, ← c.in_ok-origin.ensures)
    refl
