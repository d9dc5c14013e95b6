use Rattle.std.proofs.Common.{◌≡◌, ℕ, ◌<◌, ◌^◌, slice_index, take}
use Rattle.pd_kinds.specs.Node.{puts}
use Rattle.pd_node.specs.Items.{keys_of}
use Rattle.pd_node.proofs.write.put_keys.Given as goal

abbrev pub invariant-loop-i : goal.invariant-loop-i
invariant-loop-i g l = record {
  row : l.block.0 ≡ puts l.initial.block.0 32 8 (keys_of (take l.i l.items));
  below : (k : ℕ) → k < l.i → slice_index (keys_of l.items) k < 2 ^ 64;
}
