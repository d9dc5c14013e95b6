use Rattle.std.proofs.Common.{List, max, ap, sym, ◌∙◌}
use Rattle.std.specs.Prelude.{fold}
use Rattle.pd_meaning_thin.specs.Packed.{runs_from}
use Rattle.pd_meaning_thin.specs.declared.joined.Run.{Run}
use Rattle.pd_kept.specs.Kept.{times_of_runs}
use Rattle.pd_kept.proofs.LatestLemmas.{no_runs, times_next}
use Rattle.pd_kept.proofs.latest.latest_of_runs.Goals as goal

pub loop-run-init : goal.loop-run-init
loop-run-init c = ap (λ (runs : List Run). fold max 0 (times_of_runs runs)) c.first-place.ensures

pub loop-run-preserved : goal.loop-run-preserved
loop-run-preserved c =
    let rest = runs_from c.args.runs.now c.next.new.place in
    sym (c.later_of-latest.ensures (times_of_runs rest))
    ∙ (ap (fold max c.loop-run.latest) (sym (times_next c.in-Some.run' rest))
    ∙ (ap (λ (runs : List Run). fold max c.loop-run.latest (times_of_runs runs)) (sym c.in-Some.ensures) ∙ c.loop-run.invariant))

pub returns : goal.returns
returns c = sym (no_runs c.loop-run.latest (runs_from c.args.runs.now c.loop-run.place) c.in_default.ensures.0) ∙ c.loop-run.invariant
