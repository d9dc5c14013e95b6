use Rattle.std.proofs.Common.{arith}
use Rattle.std.proofs.lemmas.List.{take_all}
use Rattle.pd_kinds.specs.Graph.{Edge, is_outside, has_edge_outside}
use Rattle.pd_kinds.specs.Layout.{tree_edges}
use Rattle.pd_layouts.specs.Layout.{tree_of}
use Rattle.pd_kinds.proofs.ListLemmas.{any_more}
use Rattle.pd_layouts.proofs.tree.is_edge_outside.Goals as goal

pub loop-i-preserved : goal.loop-i-preserved
loop-i-preserved c =
    any_more (λ (e : Edge). is_outside c.args.nr e.block) _ c.loop-i.i _ c.loop-i.outside c.is_outside-outside.result
    c.edge_of_node-block.ensures c.loop-i.invariant c.is_outside-outside.ensures

pub returns : goal.returns
unfolding has_edge_outside
returns c =
    let edges = tree_edges c.args.role (tree_of c.args.value c.args.names) c.args.b.now.0 in
    rw (take_all c.loop-i.i edges (omega (arith, c.edge_count-count.ensures c.args.role, c.loop-i-test.false))) at c.loop-i.invariant
