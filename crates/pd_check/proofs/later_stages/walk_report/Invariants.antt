use Rattle.std.proofs.Common.{◌≡◌, ◌≤◌, ◌*◌}
use Rattle.std.specs.List.{flat_map, range_with_len}
use Rattle.pd_kinds.specs.Rule.{report_of}
use Rattle.pd_kinds.specs.Rule.{faults_at}
use Rattle.pd_graph.specs.Audit.{has_rule_at}
use Rattle.pd_check.proofs.later_stages.walk_report.Given as goal

-- the faults of the blocks before this one were added
abbrev pub invariant-loop-b : goal.invariant-loop-b
invariant-loop-b l = record {
  faults : l.report ≡ report_of (flat_map (λ b. faults_at b (has_rule_at l.fn.audit b)) (range_with_len 0 l.b));
  few : l.report.total ≤ 22 * l.b;
}
