use Rattle.std.proofs.Common.{List, ◌++◌, ap, get_or, map, sym, ◌∙◌}
use Rattle.std.proofs.lemmas.List.{append-nil}
use Rattle.pd_uses.specs.declared.hit_runs.HitRun.{HitRun}
use Rattle.pd_uses.specs.declared.hits.DataUse.{DataUse}
use Rattle.pd_uses.specs.Hits.{run_hits, use_of}
use Rattle.pd_uses.proofs.RunLemmas.{no_runs, use_runs_more}
use Rattle.pd_uses.proofs.hits.add_runs.Goals as goal

pub loop-run-init : goal.loop-run-init
loop-run-init c = rw no_runs (sym (append-nil c.args.uses.now.items))

pub loop-run-preserved : goal.loop-run-preserved
loop-run-preserved c =
    let id = c.args.id in
    let runs = c.args.runs.now in
    let i = c.loop-run.run-index in
    let none : HitRun = record { block = 0; virt = 0; number = 0 } in
    c.in_ok-add_run_uses.ensures
    ∙ (ap (λ (uses : List DataUse). uses ++ map (use_of id) (run_hits (get_or runs i none))) c.loop-run.invariant
    ∙ use_runs_more id c.args.uses.now.items runs i none c.loop-run-test.true)
