use Rattle.std.proofs.Common.{refl, ℕ}
use Rattle.pd_kinds.specs.Bitmap.{index_block_at}
use Rattle.pd_kinds.specs.Graph.{is_outside}
use Rattle.pd_bitmap.proofs.Placed.{any_more}
use Rattle.pd_bitmap.proofs.index.is_bitmap_outside.Goals as goal

pub loop-i-preserved : goal.loop-i-preserved
loop-i-preserved c =
    rw (any_more (λ (b : ℕ). is_outside c.args.nr b) (index_block_at c.args.block.now.0) c.loop-i.i, ← c.loop-i.invariant, ← c.u64_at-bitmap.ensures, ← c.is_outside-outside.ensures) refl
