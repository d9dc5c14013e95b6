use Rattle.pd_meaning_thin.proofs.EndLemmas.{all_fit, end_is}
use Rattle.pd_meaning_thin.proofs.packed.PackedRuns.end.Goals as goal

pub returns-clause-end : goal.returns-clause-end
returns-clause-end c =
    let s = c.self.inside in
    rw (c.done.ensures, c.in_tail.ensures) (end_is s.chunks s.last s.count c.args.self.now c.self.invariant c.self.view_is)

pub returns-clause-fits : goal.returns-clause-fits
returns-clause-fits c = all_fit c.self.inside.chunks c.args.self.now c.self.view_is
