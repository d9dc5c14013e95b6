use Rattle.std.proofs.Common.{ap, ◌∙◌}
use Rattle.pd_uses.specs.Hits.{runs_hits}
use Rattle.pd_uses.proofs.RunLemmas.{empty_run, runs_more}
use Rattle.pd_uses.proofs.hit_runs.add_run.Goals as goal

pub returns-then-run-eq0 : goal.returns-then-run-eq0
returns-then-run-eq0 c = empty_run (runs_hits c.args.runs.now.items) c.args.run c.if-run-eq0.true

pub returns : goal.returns
returns c = ap runs_hits c.in_ok-push.ensures.items ∙ runs_more c.args.runs.now.items c.args.run
