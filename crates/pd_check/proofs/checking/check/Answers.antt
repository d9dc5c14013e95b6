use Rattle.pd_check.proofs.CheckLemmas.{missing_report, later_read}
use Rattle.pd_check.proofs.checking.check.Goals as goal

pub returns-then-blocks-eq0-clause-report : goal.returns-then-blocks-eq0-clause-report
returns-then-blocks-eq0-clause-report g c =
    missing_report _ _ c.args.until c.blocks-blocks.result c.missing_super.result c.super_report.result c.if-blocks-eq0.true
    c.blocks-blocks.ensures.honest c.missing_super.ensures c.super_report.ensures

pub returns-clause-reads : goal.returns-clause-reads
returns-clause-reads g c = later_read _ _ _ c.args.until _ _ _ c.in_ok-read.ensures.kept.held c.in_ok-read.ensures.reads c.check_from.ensures.reads
