use Rattle.std.proofs.Common.{◌-◌, ◌≤◌, length, refl, arith}
use Rattle.std.proofs.lemmas.Option.{IfSome_then}
use Rattle.pd_tree.proofs.NextLemmas.{items_outside, nodes_outside}
use Rattle.pd_tree.proofs.StackLemmas.{unit_some}
use Rattle.pd_tree.proofs.stack.Stack.enter.Goals as goal

pub returns-then-b-blocks-clause-items : goal.returns-then-b-blocks-clause-items
returns-then-b-blocks-clause-items g c =
    let past = c.if-b-blocks.true in
    IfSome_then (g.D.Device.state c.args.dev.now).held c.blocks-2.ensures.honest (λ image honest.
    let outside : length image ≤ c.args.b = omega arith in
    rw (items_outside g.V.Value.SIZE g.V.Value.decoded image (63 - c.args.self.now.depth) c.args.b outside) refl)

pub returns-then-b-blocks-clause-nodes : goal.returns-then-b-blocks-clause-nodes
returns-then-b-blocks-clause-nodes g c =
    let past = c.if-b-blocks.true in
    IfSome_then (g.D.Device.state c.args.dev.now).held c.blocks-2.ensures.honest (λ image honest.
    let outside : length image ≤ c.args.b = omega arith in
    rw (nodes_outside g.V.Value.SIZE image (63 - c.args.self.now.depth) c.args.b outside) refl)

pub returns-then-b-blocks-clause-number : goal.returns-then-b-blocks-clause-number
returns-then-b-blocks-clause-number g c = let some = unit_some (64 - c.args.self.now.depth) in omega arith
