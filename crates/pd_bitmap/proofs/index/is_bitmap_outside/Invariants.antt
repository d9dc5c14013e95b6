use Rattle.std.proofs.Common.{◌≡◌, ℕ, map}
use Rattle.std.specs.List.{list_any, range_with_len}
use Rattle.pd_kinds.specs.Bitmap.{index_block_at}
use Rattle.pd_kinds.specs.Graph.{is_outside}
use Rattle.pd_bitmap.proofs.index.is_bitmap_outside.Given as goal

abbrev pub invariant-loop-i : goal.invariant-loop-i
invariant-loop-i l = l.outside ≡ list_any (λ (b : ℕ). is_outside l.nr b) (map (index_block_at l.block.0) (range_with_len 0 l.i))
