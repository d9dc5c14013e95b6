use Rattle.std.proofs.lemmas.Option.{IfSome_then}
use Rattle.pd_damaged.proofs.MarkLemmas.{none_marked}
use Rattle.pd_damaged.proofs.marks.LooseNodes.find.Goals as goal

pub returns-clause-marks : goal.returns-clause-marks
returns-clause-marks g c =
    IfSome_then (g.D.Device.state c.args.dev.now).held c.in_ok-look_at_all.ensures.marks
    (λ image marks. marks (none_marked c.args.kind c.args.notes.now image _ c.in_ok-nodes.ensures.loose c.in_ok-nodes.ensures.below))
