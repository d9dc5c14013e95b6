use Rattle.pd_kinds.proofs.KindLemmas.{room_some}
use Rattle.pd_build.proofs.TreeLemmas.{order_start, start_blocks, start_tree, start_root, start_number}
use Rattle.pd_build.proofs.build.Builder.new.Goals as goal

pub invariant_of-result : goal.invariant_of-result
invariant_of-result g c = order_start c.in_ok-leaves.leaves c.new-2.result c.in_ok-leaves.ensures.begun c.new-2.ensures

pub returns-clause-blocks : goal.returns-clause-blocks
returns-clause-blocks g c place items count =
    let size = g.V.Value.SIZE in
    let none = c.new-2.ensures in
    let l = c.in_ok-leaves.ensures in
    let is = start_blocks size c.args.n place c.in_ok-leaves.leaves items (room_some size g.met.V.Value.size_most) count l.number (λ some. l.leaves some items count) in
    rw none (start_tree size place c.in_ok-leaves.leaves items is)

pub returns-clause-root : goal.returns-clause-root
returns-clause-root g c place items count =
    let size = g.V.Value.SIZE in
    let none = c.new-2.ensures in
    let l = c.in_ok-leaves.ensures in
    let is = start_blocks size c.args.n place c.in_ok-leaves.leaves items (room_some size g.met.V.Value.size_most) count l.number (λ some. l.leaves some items count) in
    rw none (start_root size place c.in_ok-leaves.leaves items is)

pub returns-clause-room : goal.returns-clause-room
returns-clause-room g c =
    let none = c.new-2.ensures in
    rw none (start_number g.V.Value.SIZE c.args.n c.in_ok-leaves.leaves (room_some g.V.Value.SIZE g.met.V.Value.size_most) c.in_ok-leaves.ensures.number)
