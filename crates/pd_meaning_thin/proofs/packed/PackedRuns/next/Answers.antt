use Rattle.pd_meaning_thin.proofs.EndLemmas.{chunks_held, runs_from-next}
use Rattle.pd_meaning_thin.proofs.packed.PackedRuns.next.Goals as goal

pub returns : goal.returns
returns c =
    let s = c.self.inside in
    runs_from-next s.chunks c.args.self.now c.args.place.now c.next.new.place c.next.result
    (chunks_held s.chunks s.last s.count c.args.self.now c.self.invariant c.self.view_is)
    c.next.ensures
