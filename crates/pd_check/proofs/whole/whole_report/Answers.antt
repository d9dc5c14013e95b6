use Rattle.std.proofs.Common.{◌∙◌}
use Rattle.pd_kinds.proofs.ResultLemmas.{if_maps}
use Rattle.pd_check.proofs.WholeLemmas.{charged_report}
use Rattle.pd_check.proofs.KnownLemmas.{known_stays}
use Rattle.pd_check.specs.Check.{graph_of_super}
use Rattle.pd_check.proofs.whole.whole_report.Goals as goal

pub returns-clause-report : goal.returns-clause-report
returns-clause-report g c =
    charged_report _ _ g.M.Metadata.kind c.args.first.now.0 c.args.audit.now c.mark_whole.new.audit _ c.walk_report.result
    (c.mark_whole.ensures.number ∙ c.requires.number) c.requires.number c.requires.none c.in_ok-mark_whole.ensures.charges c.walk_report.ensures

-- what the audit knows stays while rules are added
pub returns-clause-known : goal.returns-clause-known
returns-clause-known g c =
    if_maps (g.D.Device.state c.args.dev.now).held _ _ (λ image charges ordered seen.
    known_stays (graph_of_super g.M.Metadata.kind c.args.first.now.0) image c.args.audit.now c.mark_whole.new.audit (charges ordered seen).kept ordered.known)
    c.in_ok-mark_whole.ensures.charges
