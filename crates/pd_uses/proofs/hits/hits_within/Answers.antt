use Rattle.std.proofs.Common.{List, ◌++◌, ap, filter, get_or, sym, ◌∙◌}
use Rattle.pd_uses.specs.declared.hit_runs.HitRun.{HitRun}
use Rattle.pd_uses.specs.declared.hits.Hit.{Hit}
use Rattle.pd_uses.specs.Hits.{is_hit, run_hits}
use Rattle.pd_uses.proofs.RunLemmas.{no_runs, within_more}
use Rattle.pd_uses.proofs.hits.hits_within.Goals as goal

pub loop-run-init : goal.loop-run-init
loop-run-init c = c.in_ok-hits.ensures.items ∙ sym (ap (filter (is_hit c.args.region)) no_runs)

pub loop-run-preserved : goal.loop-run-preserved
loop-run-preserved c =
    let region = c.args.region in
    let runs = c.args.runs.now in
    let i = c.loop-run.run-index in
    let none : HitRun = record { block = 0; virt = 0; number = 0 } in
    c.in_ok-add_run.ensures
    ∙ (ap (λ (hits : List Hit). hits ++ filter (is_hit region) (run_hits (get_or runs i none))) c.loop-run.invariant ∙ within_more region runs i none c.loop-run-test.true)
