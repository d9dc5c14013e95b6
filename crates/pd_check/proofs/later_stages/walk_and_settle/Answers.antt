use Rattle.std.proofs.Common.{◌≡◌, Bool, ◌&&◌, nat_eq, IfSome, ap, sym, subst, ◌∙◌}
use Rattle.std.proofs.lemmas.Bool.{and_parts, eqb-true}
use Rattle.pd_kinds.specs.Rule.{report_of}
use Rattle.pd_kinds.specs.Stages.{block_faults, order_bad}
use Rattle.pd_graph.specs.Audit.{blocks_of}
use Rattle.pd_graph.specs.Walk.{IsWalked}
use Rattle.pd_check.specs.Known.{IsWellSettled}
use Rattle.pd_check.proofs.CheckLemmas.{walked_report, none_reported, first_reported, second_reported}
use Rattle.pd_check.proofs.WholeLemmas.{not_settled, settled_from}
use Rattle.pd_check.proofs.later_stages.walk_and_settle.Goals as goal

pub order_report-requires-clause-sound : goal.order_report-requires-clause-sound
order_report-requires-clause-sound g c =
    let both = and_parts c.is_past_walk-goes_on.result c.is_empty.result c.if-goes_on-is_empty.true in
    let none = eqb-true c.walk_report-report.result.total 0 (sym c.is_empty.ensures ∙ both.1) in
    none_reported (g.F.Format.graph c.args.format.now).nr (blocks_of c.in_ok-audit.audit) c.in_ok-audit.audit c.walk_report-report.result
    c.in_ok-audit.ensures.number c.walk_report-report.ensures none

pub returns-in_ok-found-clause-report : goal.returns-in_ok-found-clause-report
returns-in_ok-found-clause-report g c =
    let graph = g.F.Format.graph c.args.format.now in
    let both = and_parts c.is_past_walk-goes_on.result c.is_empty.result c.if-goes_on-is_empty.true in
    let none = eqb-true c.walk_report-report.result.total 0 (sym c.is_empty.ensures ∙ both.1) in
    second_reported _ graph c.args.until c.in_ok-audit.audit c.walk_report-report.result c.in_ok-found.found (sym c.is_past_walk-goes_on.ensures ∙ both.0) none
    c.in_ok-audit.ensures.marks
    (walked_report _ graph (blocks_of c.in_ok-audit.audit) c.in_ok-audit.audit c.walk_report-report.result c.in_ok-audit.ensures.number c.in_ok-audit.ensures.marks c.walk_report-report.ensures)
    (subst (λ o. IfSome o (λ image. IsWalked graph image c.in_ok-audit.audit → c.in_ok-found.found ≡ report_of (block_faults graph.nr (order_bad graph image))))
    c.in_ok-audit.ensures.kept.held c.in_ok-found.ensures.report)

pub returns-else-goes_on-is_empty-clause-report : goal.returns-else-goes_on-is_empty-clause-report
returns-else-goes_on-is_empty-clause-report g c =
    let graph = g.F.Format.graph c.args.format.now in
    let total = c.walk_report-report.result.total in
    first_reported _ graph c.args.until c.walk_report-report.result
    (ap (λ (goes : Bool). goes && nat_eq total 0) (sym c.is_past_walk-goes_on.ensures)
    ∙ (ap (λ (empty : Bool). c.is_past_walk-goes_on.result && empty) (sym c.is_empty.ensures) ∙ c.if-goes_on-is_empty.false))
    (walked_report _ graph (blocks_of c.in_ok-audit.audit) c.in_ok-audit.audit c.walk_report-report.result c.in_ok-audit.ensures.number c.in_ok-audit.ensures.marks c.walk_report-report.ensures)

pub returns-else-goes_on-is_empty-clause-settled : goal.returns-else-goes_on-is_empty-clause-settled
returns-else-goes_on-is_empty-clause-settled g c =
    not_settled (λ image. IsWellSettled (g.F.Format.graph c.args.format.now) image c.in_ok-audit.audit) _ c.args.until c.walk_report-report.result
    (ap (λ (goes : Bool). goes && nat_eq c.walk_report-report.result.total 0) (sym c.is_past_walk-goes_on.ensures)
    ∙ (ap (λ (empty : Bool). c.is_past_walk-goes_on.result && empty) (sym c.is_empty.ensures) ∙ c.if-goes_on-is_empty.false))

pub returns-in_ok-found-clause-settled : goal.returns-in_ok-found-clause-settled
returns-in_ok-found-clause-settled g c =
    settled_from (λ image. IsWellSettled (g.F.Format.graph c.args.format.now) image c.order_report.new.audit) _ _ c.args.until (g.F.Format.graph c.args.format.now)
    c.in_ok-audit.audit c.in_ok-found.found c.in_ok-audit.ensures.kept.held c.in_ok-audit.ensures.marks c.in_ok-found.ensures.settled
