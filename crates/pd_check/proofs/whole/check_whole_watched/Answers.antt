use Rattle.std.proofs.Common.{ap, sym, ◌∙◌, eq-eqb}
use Rattle.std.proofs.lemmas.Bool.{eqb-true, both_ways}
use Rattle.pd_kinds.specs.Graph.{Graph}
use Rattle.pd_check.proofs.CheckLemmas.{none_reported}
use Rattle.pd_check.proofs.WholeLemmas.{first_seen, in_order, is_settled, shown, whole_first, whole_known, whole_reads, whole_second}
use Rattle.pd_check.proofs.whole.check_whole_watched.Goals as goal

pub returns-then-not-is_empty-clause-report : goal.returns-then-not-is_empty-clause-report
returns-then-not-is_empty-clause-report g c =
    whole_first _ _ _ _ _ c.in_ok-audit.report c.in_ok-audit.audit c.requires.first c.requires.sound c.format.ensures.graph c.in_ok-audit.ensures.report
    (λ none. both_ways c.is_empty.result c.if-not-is_empty.true (c.is_empty.ensures ∙ eq-eqb c.in_ok-audit.report.total 0 none))

pub whole_report-requires-clause-none : goal.whole_report-requires-clause-none
whole_report-requires-clause-none g c =
    none_reported _ _ c.in_ok-audit.audit c.in_ok-audit.report (c.in_ok-audit.ensures.number ∙ ap (λ (graph : Graph). graph.nr) c.format.ensures.graph) c.in_ok-audit.ensures.told
    (eqb-true c.in_ok-audit.report.total 0 (sym c.if-not-is_empty.ensures))

pub returns-clause-report : goal.returns-clause-report
returns-clause-report g c =
    let seen = first_seen (g.M.WholeMemory.Watch.has_seen c.walk_and_settle.new.watch.first) (g.W.Watch.has_seen c.walk_and_settle.new.watch.second) _ _ _ c.format.ensures.graph c.in_ok-audit.ensures.seen in
    whole_second _ _ _ _ _ c.in_ok-audit.report c.in_ok-audit.audit c.requires.first c.requires.sound c.format.ensures.graph c.in_ok-audit.ensures.report
    (eqb-true c.in_ok-audit.report.total 0 (sym c.if-not-is_empty.ensures)) (g.met.M.Format.Format.lawful c.format.result) c.in_ok-audit.ensures.number
    c.settled_audits_are_known.ensures c.in_ok-audit.ensures.settled
    _ c.in_ok-found.found c.in_ok-audit.ensures.kept.held (shown _ _ _ _ _ c.in_ok-audit.ensures.kept.held seen c.in_ok-found.ensures.report)

pub returns-clause-reads : goal.returns-clause-reads
returns-clause-reads g c =
    whole_reads _ _ _ _ _ c.in_ok-audit.report c.in_ok-audit.audit c.requires.first c.requires.sound c.format.ensures.graph c.in_ok-audit.ensures.report
    (eqb-true c.in_ok-audit.report.total 0 (sym c.if-not-is_empty.ensures)) (g.met.M.Format.Format.lawful c.format.result) c.in_ok-audit.ensures.number
    c.settled_audits_are_known.ensures c.in_ok-audit.ensures.settled
    _ _ _ _ c.in_ok-audit.ensures.kept.held c.in_ok-audit.ensures.reads c.whole_report.ensures.reads

pub returns-clause-whole : goal.returns-clause-whole
returns-clause-whole g c =
    let seen = first_seen (g.M.WholeMemory.Watch.has_seen c.walk_and_settle.new.watch.first) (g.W.Watch.has_seen c.walk_and_settle.new.watch.second) _ _ _ c.format.ensures.graph c.in_ok-audit.ensures.seen in
    let none = eqb-true c.in_ok-audit.report.total 0 (sym c.if-not-is_empty.ensures) in
    let told = whole_second _ _ _ _ _ c.in_ok-audit.report c.in_ok-audit.audit c.requires.first c.requires.sound c.format.ensures.graph c.in_ok-audit.ensures.report none
    (g.met.M.Format.Format.lawful c.format.result) c.in_ok-audit.ensures.number c.settled_audits_are_known.ensures c.in_ok-audit.ensures.settled
    _ c.in_ok-found.found c.in_ok-audit.ensures.kept.held (shown _ _ _ _ _ c.in_ok-audit.ensures.kept.held seen c.in_ok-found.ensures.report) in
    whole_known _ _ g.M.Metadata.kind c.args.first.now.0 c.in_ok-audit.audit c.whole_report.new.audit c.in_ok-found.found c.in_ok-audit.ensures.kept.held
    (in_order _ _ _ _ _ c.in_ok-audit.report c.in_ok-audit.audit c.requires.first c.requires.sound c.format.ensures.graph c.in_ok-audit.ensures.report none
    (g.met.M.Format.Format.lawful c.format.result) c.in_ok-audit.ensures.number c.settled_audits_are_known.ensures c.in_ok-audit.ensures.settled)
    (c.in_ok-audit.ensures.number ∙ ap (λ (graph : Graph). graph.nr) c.format.ensures.graph)
    (is_settled _ _ _ _ _ c.in_ok-audit.report c.in_ok-audit.audit c.requires.first c.requires.sound c.format.ensures.graph c.in_ok-audit.ensures.report none
    (g.met.M.Format.Format.lawful c.format.result) c.in_ok-audit.ensures.number c.settled_audits_are_known.ensures c.in_ok-audit.ensures.settled)
    (shown _ _ _ _ _ c.in_ok-audit.ensures.kept.held seen c.in_ok-found.ensures.known) told c.in_ok-found.ensures.told c.in_ok-found.ensures.number

pub returns-in_err-found-clause-reads : goal.returns-in_err-found-clause-reads
returns-in_err-found-clause-reads g c =
    whole_reads _ _ _ _ _ c.in_ok-audit.report c.in_ok-audit.audit c.requires.first c.requires.sound c.format.ensures.graph c.in_ok-audit.ensures.report
    (eqb-true c.in_ok-audit.report.total 0 (sym c.if-not-is_empty.ensures)) (g.met.M.Format.Format.lawful c.format.result) c.in_ok-audit.ensures.number
    c.settled_audits_are_known.ensures c.in_ok-audit.ensures.settled
    _ _ _ _ c.in_ok-audit.ensures.kept.held c.in_ok-audit.ensures.reads c.whole_report.ensures.reads
