use Rattle.std.proofs.Common.{◌+◌, refl, arith}
use Rattle.std.specs.List.{slice_index}
use Rattle.std.proofs.lemmas.List.{length-set}
use Rattle.pd_kinds.proofs.WrittenLemmas.{length-zeros}
use Rattle.pd_bitmap.specs.Counts.{stored_four}
use Rattle.pd_bitmap.proofs.Filled.{filled_start, filled_next, filled_end}
use Rattle.pd_bitmap.proofs.bitmap.filled_bitmap.Goals as goal

pub loop-i-init : goal.loop-i-init
loop-i-init c =
    let is = c.new_bitmap-block.ensures.block in
    filled_start (slice_index c.args.numbers.now) c.new_bitmap-block.result.0 is (rw is length-zeros)

pub loop-i-preserved : goal.loop-i-preserved
unfolding stored_four
loop-i-preserved c =
    filled_next (slice_index c.args.numbers.now) c.loop-i.i c.byte_of.result c.loop-i.block.0 _ c.loop-i.invariant (omega arith) c.byte_of.ensures
    refl (length-set c.loop-i.block.0 (16 + c.loop-i.i) c.byte_of.result)

pub returns : goal.returns
returns c = filled_end (slice_index c.args.numbers.now) c.loop-i.i c.loop-i.block.0 c.loop-i.invariant (omega arith)
