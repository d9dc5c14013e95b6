use Rattle.std.proofs.Common.{◌<◌, true, sym, ◌∙◌, ap, arith}
use Rattle.std.proofs.lemmas.Bool.{and_from}
use Rattle.std.proofs.lemmas.Option.{IfSome_then}
use Rattle.pd_kinds.specs.Graph.{pair, role_of, is_reached}
use Rattle.pd_graph.proofs.BitLemmas.{pair_role}
use Rattle.pd_settle.specs.Settled.{is_node}
use Rattle.pd_settle.proofs.settling.visit.Goals as goal

pub returns-in-Some-clause-told : goal.returns-in-Some-clause-told
returns-in-Some-clause-told g c =
    let graph = g.F.Format.graph c.args.format.now in
    let role = c.in-Some.role in
    let met = c.in-Some.ensures.some in
    let roles = g.met.F.Format.roles c.args.format.now in
    let few = (g.met.F.Format.lawful c.args.format.now).few_roles in
    let known = met.0 in
    let within : role < 16 = omega arith in
    IfSome_then (g.D.Device.state c.args.dev.now).held c.descend.ensures.told (λ image more settleable ordering has.
    more (is_node graph image) (λ x. true) settleable ordering
    (and_from (is_reached graph image (pair c.args.b role)) (graph.is_tree (role_of (pair c.args.b role)))
    (sym (has.roles c.args.b role c.requires.block within) ∙ met.1)
    (ap graph.is_tree (pair_role c.args.b role within) ∙ met.2)))
