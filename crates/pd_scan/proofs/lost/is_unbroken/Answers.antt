use Rattle.pd_kinds.specs.Rule.{has_rule}
use Rattle.pd_scan.proofs.JudgeLemmas.{unbroken_by}
use Rattle.pd_scan.proofs.lost.is_unbroken.Goals as goal

pub returns : goal.returns
returns g c =
    unbroken_by (g.F.Format.graph c.args.format.now) c.args.role c.args.b c.args.block.now.0 (has_rule c.rules.result) c.is_empty.result c.rules.ensures c.is_empty.ensures
