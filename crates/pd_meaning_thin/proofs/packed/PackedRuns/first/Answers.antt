use Rattle.pd_meaning_thin.proofs.EndLemmas.{chunks_held, runs_from-first}
use Rattle.pd_meaning_thin.proofs.packed.PackedRuns.first.Goals as goal

pub returns : goal.returns
returns c =
    let s = c.self.inside in
    runs_from-first s.chunks c.args.self.now c.self.view_is
    (chunks_held s.chunks s.last s.count c.args.self.now c.self.invariant c.self.view_is)
