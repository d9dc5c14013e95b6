use Rattle.std.proofs.Common.{◌≡◌, ◌+◌, ◌-◌, ◌^◌, ◌≤◌, min, length, IfSome}
use Rattle.pd_image.specs.Device.{OnlyReads}
use Rattle.pd_tree.specs.Cursor.{cursor_items, cursor_nodes, cursor_number}
use Rattle.pd_tree.proofs.cursor.Cursor.count.Given as goal

-- the entries that were counted and those that are left are those that were left at the start
abbrev pub invariant-loop-count : goal.invariant-loop-count
invariant-loop-count g l = record {
  entries : IfSome (g.D.Device.state l.initial.dev).held (λ image. min (l.count + length (cursor_items g.V.Value.SIZE g.V.Value.decoded image l.self)) (2 ^ 64 - 1) ≡ min (length (cursor_items g.V.Value.SIZE g.V.Value.decoded image l.initial.self)) (2 ^ 64 - 1));
  fits : l.count ≤ 2 ^ 64 - 1;
  reads : IfSome (g.D.Device.state l.initial.dev).held (λ image. (g.D.Device.state l.dev).reads + length (cursor_nodes g.V.Value.SIZE image l.self) ≤ (g.D.Device.state l.initial.dev).reads + length (cursor_nodes g.V.Value.SIZE image l.initial.self));
  kept : OnlyReads (g.D.Device.state l.initial.dev) (g.D.Device.state l.dev);
  faults : (g.D.Device.state l.dev).faults ≡ (g.D.Device.state l.initial.dev).faults;
}

abbrev pub decreases-loop-count : goal.decreases-loop-count
decreases-loop-count g l = cursor_number g.V.Value.SIZE l.self
