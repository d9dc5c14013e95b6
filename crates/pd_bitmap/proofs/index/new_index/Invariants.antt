use Rattle.std.proofs.Common.{◌≡◌, ℕ, ◌<◌, get_or, map, take}
use Rattle.pd_kinds.specs.Node.{puts}
use Rattle.pd_value.specs.declared.space_map.IndexEntry.{IndexEntry}
use Rattle.pd_bitmap.specs.Counts.{DoFieldsFit}
use Rattle.pd_bitmap.proofs.Placed.{code_of}
use Rattle.pd_bitmap.proofs.index.new_index.Given as goal

abbrev pub invariant-loop-i : goal.invariant-loop-i
invariant-loop-i l = record {
  row : l.block.0 ≡ puts l.initial.block.0 16 16 (map code_of (take l.i l.entries));
  fit : (k : ℕ) (d : IndexEntry) → k < l.i → DoFieldsFit (get_or l.entries k d);
}
