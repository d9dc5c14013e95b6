use Rattle.std.specs.List.{slice_index}
use Rattle.pd_bitmap.proofs.Filled.{IsFilled}
use Rattle.pd_bitmap.proofs.bitmap.filled_bitmap.Given as goal

abbrev pub invariant-loop-i : goal.invariant-loop-i
invariant-loop-i l = IsFilled (slice_index l.numbers) l.i l.block.0
