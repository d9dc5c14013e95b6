use Rattle.std.proofs.lemmas.Option.{IfSome_then}
use Rattle.pd_damaged.proofs.MarkLemmas.{tops_listed}
use Rattle.pd_damaged.proofs.roots.loose_tops.Goals as goal

pub returns-clause-all : goal.returns-clause-all
returns-clause-all g c =
    IfSome_then (g.D.Device.state c.args.dev.now).held c.in_ok-nodes.ensures.marks
    (λ image marked graph number are.
    tops_listed graph image c.args.notes.now c.in_ok-nodes.nodes number c.in_ok-listed.field-0.items are marked c.in_ok-listed.ensures.listed)
