use Rattle.std.proofs.Common.{arith}
use Rattle.std.proofs.lemmas.List.{take_all}
use Rattle.pd_kinds.specs.Graph.{Edge, is_outside, has_edge_outside}
use Rattle.pd_kinds.proofs.ListLemmas.{any_more}
use Rattle.pd_kinds.proofs.superblocks.Edges.any_outside.Goals as goal

pub loop-i-preserved : goal.loop-i-preserved
loop-i-preserved c =
    any_more (λ (e : Edge). is_outside c.args.nr e.block) _ c.loop-i.i _ c.loop-i.outside c.is_outside-outside.result
    c.get-block.ensures c.loop-i.invariant c.is_outside-outside.ensures

pub returns : goal.returns
unfolding has_edge_outside
returns c = rw (take_all c.loop-i.i c.args.self.now (omega (arith, c.len-count.ensures, c.loop-i-test.false))) at c.loop-i.invariant
