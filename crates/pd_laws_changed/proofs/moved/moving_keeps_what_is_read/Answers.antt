use Rattle.pd_answers.specs.Shrinks.{sources}
use Rattle.pd_laws_changed.proofs.Reading.{reads_kept}
use Rattle.pd_laws_changed.proofs.moved.moving_keeps_what_is_read.Goals as goal

pub returns : goal.returns
returns c = λ m end free held left unnamed keeps. reads_kept m (sources m end) free held left unnamed keeps
