use Rattle.std.proofs.Common.{length, sym, ap, ◌∙◌}
use Rattle.std.proofs.lemmas.Bool.{eqb-true}
use Rattle.std.proofs.lemmas.List.{nil_from_length}
use Rattle.pd_uses.specs.Hits.{runs_hits}
use Rattle.pd_uses.proofs.RunLemmas.{no_runs}
use Rattle.pd_uses.proofs.hits.LeafHits.is_empty.Goals as goal

pub returns : goal.returns
returns c = λ empty.
    let runs = c.runs.result.now in
    sym c.runs.ensures ∙ (ap runs_hits (nil_from_length runs (eqb-true (length runs) 0 (sym c.is_empty.ensures ∙ empty))) ∙ no_runs)
