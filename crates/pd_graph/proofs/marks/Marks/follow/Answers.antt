use Rattle.std.proofs.Common.{List, ◌<◌, length, ap, subst, sym, ◌∙◌, ◌-◌, arith, drop, refl}
use Rattle.std.proofs.lemmas.List.{drop_all}
use Rattle.pd_kinds.specs.Graph.{Edge, edge_of}
use Rattle.pd_graph.specs.Marks.{Follows}
use Rattle.pd_graph.proofs.AnyLemmas.{edges_from, follows_none, follows_before}
use Rattle.pd_graph.proofs.marks.Marks.follow.Goals as goal

pub loop-i-preserved : goal.loop-i-preserved
loop-i-preserved g c =
    let edges = (g.F.Format.graph c.args.format.now).edges c.args.role c.args.place c.args.block.now.0 in
    let edge = edge_of c.edge-met_role.result.0 c.edge-met_role.result.1 in
    record {
      follows = subst (λ (met : List Edge). Follows met c.args.self.now c.meet.new.self)
          (sym (edges_from edges c.loop-i.i (c.loop-i.i - 1) edge (omega arith) c.edge-met_role.ensures))
          (follows_before edge (drop c.loop-i.i edges) c.args.self.now c.loop-i.self c.meet.new.self c.loop-i.invariant.follows c.meet.ensures.follows);
      rules = c.meet.ensures.rules ∙ c.loop-i.invariant.rules;
    }

pub loop-i-init : goal.loop-i-init
loop-i-init g c =
    let edges = (g.F.Format.graph c.args.format.now).edges c.args.role c.args.place c.args.block.now.0 in
    let known : c.args.role < (g.F.Format.graph c.args.format.now).roles = omega (arith, g.met.F.Format.roles c.args.format.now, c.requires.role) in
    let same = (g.met.F.Format.told c.args.format.now).edges c.args.role c.args.place c.args.block.now.0 known c.requires.sound in
    let number = ap (λ (met : List Edge). length met) same in
    record {
      follows = subst (λ (met : List Edge). Follows met c.args.self.now c.args.self.now)
          (sym (drop_all c.edges_of_any-i.result edges (omega (arith, c.edges_of_any-i.ensures, number))))
          (follows_none c.args.self.now);
      rules = refl;
    }
