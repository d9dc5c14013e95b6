use Rattle.std.proofs.Common.{◌≡◌, ℕ, refl, ◌∙◌, ap, arith}
use Rattle.std.specs.List.{range_with_len}
use Rattle.std.proofs.lemmas.List.FromFn.{length-range_with_len}
use Rattle.pd_kinds.specs.Bitmap.{bitmaps_for}
use Rattle.pd_draft.specs.DraftState.{draft_state}
use Rattle.pd_build.proofs.RowLemmas.{moved_by, row_next, wrote_nothing}
use Rattle.pd_count.specs.Counted.{count_of}
use Rattle.pd_smwrite.specs.Map.{bitmap_blocks, written_bitmap}
use Rattle.pd_smwrite.proofs.FreeLemmas.{range_more}
use Rattle.pd_smwrite.proofs.bitmaps.write_bitmaps.Goals as goal

pub loop-i-init : goal.loop-i-init
loop-i-init g c = record {
  same_reference = refl;
  wrote = wrote_nothing (written_bitmap (count_of c.args.counts.now)) (draft_state c.args.draft.now) c.requires.closed;
}

pub put_block-requires-clause-room : goal.put_block-requires-clause-room
put_block-requires-clause-room g c =
    let before = c.loop-i.invariant.wrote in
    let at = moved_by (written_bitmap (count_of c.args.counts.now)) (range_with_len 0 c.loop-i.i) before in
    omega (arith, c.requires.room, at, length-range_with_len 0 c.loop-i.i, before.stays.kept.blocks, c.bitmap_number-i-end.ensures)

pub loop-i-preserved : goal.loop-i-preserved
loop-i-preserved g c =
    let counts = count_of c.args.counts.now in
    record {
      same_reference = c.put_block.ensures.same_reference ∙ c.loop-i.invariant.same_reference;
      wrote = rw (range_more c.loop-i.i)
          (row_next (written_bitmap counts) (range_with_len 0 c.loop-i.i) c.loop-i.i c.bitmap-block.result.0 c.loop-i.invariant.wrote
          (c.bitmap-block.ensures ∙ ap (λ (p : ℕ). written_bitmap counts p c.loop-i.i) c.next.ensures) c.in_ok-put_block.ensures.wrote);
    }

pub returns-clause-wrote : goal.returns-clause-wrote
unfolding bitmap_blocks
returns-clause-wrote g c =
    let last : c.loop-i.i ≡ bitmaps_for c.args.counts.now.size = omega (arith, c.bitmap_number-i-end.ensures) in
    rw last at c.loop-i.invariant.wrote
