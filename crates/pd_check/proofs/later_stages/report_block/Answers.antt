use Rattle.std.proofs.Common.{List, ◌++◌, ap, sym, ◌∙◌, append-nil}
use Rattle.pd_kinds.specs.declared.rule.Fault.{Fault}
use Rattle.pd_kinds.specs.Rule.{report_of}
use Rattle.pd_kinds.specs.Rule.{has_rule}
use Rattle.pd_kinds.proofs.CleanLemmas.{no_faults_at}
use Rattle.pd_check.proofs.later_stages.report_block.Goals as goal

pub returns-then-is_empty-clause-faults : goal.returns-then-is_empty-clause-faults
returns-then-is_empty-clause-faults c = λ before e.
    e ∙ ap (λ (list : List Fault). report_of list)
    (sym (ap (λ (list : List Fault). before ++ list) (no_faults_at c.args.b (has_rule c.args.broken.now) (c.is_empty.ensures.0 c.if-is_empty.true)) ∙ append-nil before))
