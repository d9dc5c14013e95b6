use Rattle.std.proofs.Common.{ℕ, max, min, ap, ◌∙◌}
use Rattle.pd_uses.specs.declared.hit_runs.HitRun.{HitRun}
use Rattle.pd_uses.proofs.RunLemmas.{no_runs, span_runs}
use Rattle.pd_uses.proofs.hits.span_of.Goals as goal

pub loop-run-init : goal.loop-run-init
loop-run-init c = rw no_runs tt

pub loop-run-preserved : goal.loop-run-preserved
loop-run-preserved c =
    let span = c.loop-run.span in
    let none : HitRun = record { block = 0; virt = 0; number = 0 } in
    span_runs span c.min-least.result c.max-most.result c.args.runs.now c.loop-run.run-index none c.loop-run-test.true
    (c.min-least.ensures ∙ ap (λ (block : ℕ). min span.least block) c.first_block.ensures) (c.max-most.ensures ∙ ap (λ (block : ℕ). max span.most block) c.last_block.ensures) c.loop-run.invariant
