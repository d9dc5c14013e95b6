use Rattle.std.proofs.Common.{ap, sym, ◌∙◌, ◌≡◌, arith, List}
use Rattle.pd_kinds.specs.declared.rule.Fault.{Fault}
use Rattle.pd_kinds.specs.Rule.{report_of}
use Rattle.pd_kinds.specs.Rule.{faults_at}
use Rattle.pd_graph.specs.Audit.{has_rule_at}
use Rattle.pd_kinds.proofs.SuperStage.{faults_at-same}
use Rattle.pd_check.proofs.CheckLemmas.{one_block_more}
use Rattle.pd_check.proofs.later_stages.walk_report.Goals as goal

pub loop-b-init : goal.loop-b-init
loop-b-init c = record { faults = c.new-report.ensures; few = rw c.new-report.ensures (omega arith) }

pub report_block-requires : goal.report_block-requires
report_block-requires c = omega (arith, c.loop-b.invariant.few, c.nr-b-end.ensures.few, c.loop-b.auto.b-end)

pub loop-b-preserved : goal.loop-b-preserved
loop-b-preserved c = record {
  faults =
      c.report_block.ensures.faults _ c.loop-b.invariant.faults
      ∙ ap (λ (list : List Fault). report_of list)
      (rw (faults_at-same c.loop-b.b _ _ c.rules.ensures) (sym (one_block_more (λ b. faults_at b (has_rule_at c.args.audit.now b)) c.loop-b.b)));
  few = omega (arith, c.loop-b.invariant.few, c.report_block.ensures.total);
}

pub returns : goal.returns
returns c =
    let e : c.loop-b.b ≡ c.nr-b-end.result = omega (arith, c.loop-b.auto.b-end, c.loop-b-test.false) in
    rw (e ∙ c.nr-b-end.ensures.number) at c.loop-b.invariant.faults
