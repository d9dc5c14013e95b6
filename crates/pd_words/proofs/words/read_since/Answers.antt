use Rattle.std.proofs.Common.{refl}
use Rattle.std.specs.Option.{option_copied}
use Rattle.pd_answers.specs.Words.{request_of}
use Rattle.pd_words.proofs.ItemLemmas.{file_as_given}
use Rattle.pd_words.proofs.words.read_since.Goals as goal

pub returns-clause-asked : goal.returns-clause-asked
unfolding request_of
returns-clause-asked c =
    rw (← c.in_ok-era.ensures.number, ← c.in_ok-file.ensures, ← c.in_ok-image.ensures, file_as_given (option_copied c.in_ok-file.file))
    refl
