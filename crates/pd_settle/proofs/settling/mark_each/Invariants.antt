use Rattle.std.proofs.Common.{◌≡◌, ℕ, nat_lt, ◌||◌, ◌&&◌}
use Rattle.pd_kinds.specs.declared.rule.Rule.{Rule}
use Rattle.pd_graph.specs.Audit.{note_at, has_rule_at, KeepsButRules}
use Rattle.pd_settle.specs.Settled.{noted_rule, breaks}
use Rattle.pd_settle.proofs.settling.mark_each.Given as goal

abbrev pub invariant-loop-b : goal.invariant-loop-b
invariant-loop-b l = record {
  rules : (c : ℕ) (wanted : Rule) → has_rule_at l.audit c wanted
      ≡ (has_rule_at l.initial.audit c wanted || (nat_lt c l.b && breaks (noted_rule (note_at l.initial.audit c)) wanted));
  kept : KeepsButRules l.initial.audit l.audit;
}
