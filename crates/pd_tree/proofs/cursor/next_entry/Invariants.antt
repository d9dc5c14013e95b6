use Rattle.std.proofs.Common.{◌≡◌, ◌≤◌, IfSome}
use Rattle.pd_image.specs.Device.{OnlyReads}
use Rattle.pd_tree.specs.Stack.{stack_number}
use Rattle.pd_tree.proofs.NextLemmas.{Told}
use Rattle.pd_tree.proofs.cursor.next_entry.Given as goal

abbrev pub invariant-loop-stack : goal.invariant-loop-stack
invariant-loop-stack g l = record {
  told : IfSome (g.D.Device.state l.initial.dev).held (λ image. Told g.V.Value.SIZE g.V.Value.decoded image (g.D.Device.state l.initial.dev).reads l.initial.stack (g.D.Device.state l.dev).reads l.stack);
  number : stack_number g.V.Value.SIZE l.stack ≤ stack_number g.V.Value.SIZE l.initial.stack;
  kept : OnlyReads (g.D.Device.state l.initial.dev) (g.D.Device.state l.dev);
  faults : (g.D.Device.state l.dev).faults ≡ (g.D.Device.state l.initial.dev).faults;
}

abbrev pub decreases-loop-stack : goal.decreases-loop-stack
decreases-loop-stack g l = stack_number g.V.Value.SIZE l.stack
