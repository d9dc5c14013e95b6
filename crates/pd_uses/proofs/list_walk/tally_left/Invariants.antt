use Rattle.std.proofs.Common.{◌≡◌, IfSome}
use Rattle.pd_image.specs.Device.{OnlyReads}
use Rattle.pd_tree.specs.Stack.{stack_items, stack_nodes, stack_number}
use Rattle.pd_meaning_thin.specs.Runs.{block_time_of}
use Rattle.pd_uses.specs.ListWalk.{Walks, told_of}
use Rattle.pd_uses.proofs.list_walk.tally_left.Given as goal

-- what isn't left any more was walked
abbrev pub invariant-loop-stack : goal.invariant-loop-stack
invariant-loop-stack g l = record {
  walks : IfSome (g.D.Device.state l.initial.dev).held (λ image. Walks image (stack_nodes 8 image l.initial.stack) (stack_nodes 8 image l.stack)
      (told_of l.id (stack_items 8 block_time_of image l.initial.stack)) (told_of l.id (stack_items 8 block_time_of image l.stack)) l.initial.meets l.meets l.initial.tallies l.tallies);
  kept : OnlyReads (g.D.Device.state l.initial.dev) (g.D.Device.state l.dev);
  faults : (g.D.Device.state l.dev).faults ≡ (g.D.Device.state l.initial.dev).faults;
}

abbrev pub decreases-loop-stack : goal.decreases-loop-stack
decreases-loop-stack g l = stack_number 8 l.stack
