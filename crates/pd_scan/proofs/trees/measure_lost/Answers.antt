use Rattle.std.proofs.Common.{sym, subst}
use Rattle.pd_kinds.proofs.ResultLemmas.{if_both}
use Rattle.pd_scan.specs.Lost.{AreLostTrees}
use Rattle.pd_scan.proofs.LostLemmas.{tops_role}
use Rattle.pd_scan.proofs.BelowLemmas.{lost_trees_are}
use Rattle.pd_scan.proofs.trees.measure_lost.Goals as goal

pub returns-clause-trees : goal.returns-clause-trees
returns-clause-trees g c =
    let graph = g.F.Format.graph c.args.format.now in
    let laws = c.measures_are_those_of_lists.ensures in
    if_both (g.D.Device.state c.args.dev.now).held
    (λ image bytes measured.
    subst (AreLostTrees graph image) (sym c.trees_of.ensures)
    (lost_trees_are graph image c.fill.new.tables measured (tops_role g.F.Format.ROLES graph c.requires.pool) (laws.details graph image) (laws.tops graph image) bytes))
    (g.met.D.Device.bytes c.args.dev.now) c.in_ok-fill.ensures.measured
