use Rattle.std.proofs.Common.{◌≤◌, ◌-◌, length, sym, ◌∙◌, arith}
use Rattle.std.proofs.lemmas.Bool.{ltb-false}
use Rattle.std.proofs.lemmas.Option.{IfSome_then}
use Rattle.pd_kinds.proofs.ResultLemmas.{if_any, if_both}
use Rattle.pd_tree.specs.Stack.{stack_items, stack_nodes}
use Rattle.pd_tree.proofs.StackLemmas.{unit_some}
use Rattle.pd_meaning_thin.specs.Runs.{block_time_of}
use Rattle.pd_uses.specs.ListWalk.{times_met}
use Rattle.pd_uses.proofs.ListWalkLemmas.{walks_outside, walks_passes, walks_reads}
use Rattle.pd_uses.proofs.list_walk.go_to.Goals as goal

pub returns-in-Ok-clause-walks : goal.returns-in-Ok-clause-walks
returns-in-Ok-clause-walks g c =
    if_both (g.D.Device.state c.args.dev.now).held
    (λ image nodes items id t.
    walks_reads image id (63 - c.args.stack.now.depth) c.args.b (stack_nodes 8 image c.args.stack.now) (stack_nodes 8 image c.push.new.self)
    (stack_items 8 block_time_of image c.args.stack.now) (stack_items 8 block_time_of image c.push.new.self) c.args.meets.now c.meet.new.self t nodes items c.meet.ensures.counts)
    c.in-Ok.ensures.nodes c.in-Ok.ensures.items

pub returns-else-b-blocks-clause-walks : goal.returns-else-b-blocks-clause-walks
returns-else-b-blocks-clause-walks g c =
    IfSome_then (g.D.Device.state c.args.dev.now).held c.blocks-then-meet.ensures.honest (λ image honest id t.
    let outside : length image ≤ c.args.b = omega arith in
    walks_outside image id (63 - c.args.stack.now.depth) c.args.b (stack_nodes 8 image c.args.stack.now) (stack_items 8 block_time_of image c.args.stack.now) c.args.meets.now c.meet.new.self t outside c.meet.ensures.counts)

pub returns-else-b-blocks-clause-number : goal.returns-else-b-blocks-clause-number
returns-else-b-blocks-clause-number g c = omega (arith, unit_some (64 - c.args.stack.now.depth))

pub returns-else-meet-clause-walks : goal.returns-else-meet-clause-walks
returns-else-meet-clause-walks g c =
    if_any (g.D.Device.state c.args.dev.now).held (λ image id t.
    rw (c.meet.ensures.passed c.if-meet.false)
    (walks_passes image id (63 - c.args.stack.now.depth) c.args.b (stack_nodes 8 image c.args.stack.now) (stack_items 8 block_time_of image c.args.stack.now) c.args.meets.now t (omega arith)
    (ltb-false (times_met c.args.meets.now c.args.b) 2 (sym c.meet.ensures.first ∙ c.if-meet.false))))

pub returns-else-meet-clause-number : goal.returns-else-meet-clause-number
returns-else-meet-clause-number g c = omega (arith, unit_some (64 - c.args.stack.now.depth))
