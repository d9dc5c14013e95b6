use Rattle.std.proofs.Common.{sym, ◌∙◌, eq-eqb}
use Rattle.std.proofs.lemmas.Bool.{eqb-true, both_ways}
use Rattle.pd_check.proofs.CountLemmas.{few_counted}
use Rattle.pd_check.proofs.WholeLemmas.{counts_claimed, counts_first, counts_second, counts_reads}
use Rattle.pd_check.proofs.whole.check_counts.Goals as goal

pub returns-then-not-claims_few-clause-report : goal.returns-then-not-claims_few-clause-report
returns-then-not-claims_few-clause-report g c =
    counts_claimed _ g.M.Metadata.kind c.args.first.now.0 c.in_ok-_audit._audit c.in_ok-_audit.report
    (λ few. both_ways c.claims_few.result c.if-not-claims_few.true (c.claims_few.ensures.1 few))
    c.bitmaps_are_no_more_than_blocks.ensures c.in_ok-_audit.ensures.whole c.in_ok-_audit.ensures.report

pub returns-then-not-is_empty-clause-report : goal.returns-then-not-is_empty-clause-report
returns-then-not-is_empty-clause-report g c =
    counts_first _ g.M.Metadata.kind c.in_ok-audit.report (λ none. both_ways c.is_empty.result c.if-not-is_empty.true (c.is_empty.ensures ∙ eq-eqb c.in_ok-audit.report.total 0 none))
    c.in_ok-audit.ensures.report

pub count_report-requires-clause-data : goal.count_report-requires-clause-data
count_report-requires-clause-data g c = few_counted g.M.Metadata.kind c.args.blocks c.args.first.now.0 c.requires.sound

pub returns-clause-report : goal.returns-clause-report
returns-clause-report g c =
    counts_second _ _ _ g.M.Metadata.kind c.args.first.now.0 c.in_ok-audit.audit c.in_ok-audit.report c.count_report.result c.in_ok-audit.ensures.kept.held
    (eqb-true c.in_ok-audit.report.total 0 (sym c.if-not-is_empty.ensures)) c.in_ok-audit.ensures.seen c.in_ok-audit.ensures.whole c.count_report.ensures.report

pub returns-clause-reads : goal.returns-clause-reads
returns-clause-reads g c =
    counts_reads _ _ g.M.Metadata.kind c.args.first.now.0 c.in_ok-audit.audit c.in_ok-audit.report _ _ _ c.in_ok-audit.ensures.kept.held
    (eqb-true c.in_ok-audit.report.total 0 (sym c.if-not-is_empty.ensures)) c.counts_read_no_more_than_nodes.ensures c.in_ok-audit.ensures.whole
    c.in_ok-audit.ensures.reads c.count_report.ensures.reads
