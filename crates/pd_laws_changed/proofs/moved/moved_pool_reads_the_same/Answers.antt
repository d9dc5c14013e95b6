use Rattle.pd_laws_changed.proofs.Reading.{reads_moved}
use Rattle.pd_laws_changed.proofs.moved.moved_pool_reads_the_same.Goals as goal

pub returns : goal.returns
returns c = λ m end free held are_free need. reads_moved m end free held are_free need
