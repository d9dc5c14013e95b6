use Rattle.std.proofs.Common.{◌∙◌, sym}
use Rattle.pd_check.proofs.CountLemmas.{none_added}
use Rattle.pd_check.proofs.counts.add_space_faults.Goals as goal

pub returns-in-None-clause-added : goal.returns-in-None-clause-added
returns-in-None-clause-added g c =
    none_added _ _ g.M.Metadata.kind c.args.first.now.0 c.args.report.now (sym c.data_space.ensures.space ∙ c.in-None.is)
