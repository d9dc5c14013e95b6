use Rattle.std.proofs.Common.{◌≡◌, drop}
use Rattle.pd_graph.specs.Marks.{Follows, rules_of}
use Rattle.pd_graph.proofs.marks.Marks.follow.Given as goal

abbrev pub invariant-loop-i : goal.invariant-loop-i
invariant-loop-i g l = record {
  follows : Follows (drop l.i ((g.F.Format.graph l.format).edges l.role l.place l.block.0)) l.initial.self l.self;
  rules : rules_of l.self ≡ rules_of l.initial.self;
}
