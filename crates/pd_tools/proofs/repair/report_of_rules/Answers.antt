use Rattle.std.proofs.Common.{[]}
use Rattle.pd_tools.proofs.repair.report_of_rules.Goals as goal

pub returns : goal.returns
returns c = c.add_rules.ensures.faults [] c.new-report.ensures
