use Rattle.pd_count.proofs.FormLemmas.{raised}
use Rattle.pd_count.proofs.dense.raise.Goals as goal

pub returns-then-room-clause-raised : goal.returns-then-room-clause-raised
returns-then-room-clause-raised c = λ room. raised c.args.digits.now c.args.at c.requires.place c.requires.digits.some
