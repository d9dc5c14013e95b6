use Rattle.std.proofs.Common.{◌≡◌, ℕ, ◌<◌, ◌^◌, slice_index, take}
use Rattle.pd_kinds.specs.Node.{puts}
use Rattle.pd_node.specs.Items.{values_of}
use Rattle.pd_node.proofs.write.put_children.Given as goal

abbrev pub invariant-loop-i : goal.invariant-loop-i
invariant-loop-i l = record {
  row : l.block.0 ≡ puts l.initial.block.0 l.at 8 (values_of (take l.i l.items));
  below : (k : ℕ) → k < l.i → slice_index (values_of l.items) k < 2 ^ 64;
}
