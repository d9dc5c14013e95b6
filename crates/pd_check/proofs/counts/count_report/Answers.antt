use Rattle.pd_check.proofs.CountLemmas.{both_few, both_told, meta_few}
use Rattle.pd_check.proofs.counts.count_report.Goals as goal

pub returns-in_err-add_meta_faults-clause-reads : goal.returns-in_err-add_meta_faults-clause-reads
returns-in_err-add_meta_faults-clause-reads g c = meta_few _ g.M.Metadata.kind c.args.first.now.0 _ _ c.in_err-add_meta_faults.ensures.reads

pub returns-in_err-add_space_faults-clause-reads : goal.returns-in_err-add_space_faults-clause-reads
returns-in_err-add_space_faults-clause-reads g c =
    both_few _ _ g.M.Metadata.kind c.args.first.now.0 _ _ _ c.in_ok-add_meta_faults.ensures.kept.held c.in_ok-add_meta_faults.ensures.reads c.in_err-add_space_faults.ensures.reads

pub returns-clause-reads : goal.returns-clause-reads
returns-clause-reads g c =
    both_few _ _ g.M.Metadata.kind c.args.first.now.0 _ _ _ c.in_ok-add_meta_faults.ensures.kept.held c.in_ok-add_meta_faults.ensures.reads c.in_ok-add_space_faults.ensures.reads

pub returns-clause-report : goal.returns-clause-report
returns-clause-report g c =
    both_told _ _ _ g.M.Metadata.kind c.args.first.now.0 c.args.audit.now c.new-report.result c.add_meta_faults.new.report c.add_space_faults.new.report
    c.in_ok-add_meta_faults.ensures.kept.held c.new-report.ensures c.in_ok-add_meta_faults.ensures.added c.in_ok-add_space_faults.ensures.added
