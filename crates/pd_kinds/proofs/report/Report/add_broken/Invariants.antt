use Rattle.std.proofs.Common.{◌≡◌, ◌+◌, ◌≤◌, List, ◌++◌, take, map, filter}
use Rattle.pd_kinds.specs.declared.rule.Fault.{Fault}
use Rattle.pd_kinds.specs.Rule.{has_rule}
use Rattle.pd_kinds.specs.Rule.{report_of}
use Rattle.pd_kinds.specs.Rule.{meta_fault}
use Rattle.pd_kinds.proofs.report.Report.add_broken.Given as goal

abbrev pub invariant-loop-rule : goal.invariant-loop-rule
invariant-loop-rule l =
    (l.self.total ≤ l.fn.self.total + l.rule-index)
    × ((before : List Fault) → l.fn.self ≡ report_of before
    → l.self ≡ report_of (before ++ map (meta_fault l.block) (filter (has_rule l.rules) (take l.rule-index l.all))))
