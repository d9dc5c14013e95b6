use Rattle.std.proofs.Common.{[]}
use Rattle.pd_check.proofs.checking.super_report.Goals as goal

pub returns : goal.returns
returns c = c.add_rules.ensures.faults [] c.new-report.ensures
