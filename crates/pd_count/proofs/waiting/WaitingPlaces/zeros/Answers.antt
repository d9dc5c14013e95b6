use Rattle.pd_count.specs.Counted.{waiting_number}
use Rattle.pd_count.proofs.FormLemmas.{zeros_more}
use Rattle.pd_count.proofs.waiting.WaitingPlaces.zeros.Goals as goal

pub loop-at-preserved : goal.loop-at-preserved
loop-at-preserved c =
    zeros_more (waiting_number c.args.self.now) c.loop-at.at c.loop-at.zeros c.number.result c.from-zeros.result c.number.ensures c.from-zeros.ensures c.loop-at.invariant
