use Rattle.std.proofs.Common.{◌≡◌, ℕ, ◌+◌, ◌*◌, List, ◌++◌, map, replicate, refl, sym, ◌∙◌}
use Rattle.std.specs.List.{range_with_len, slice_index}
use Rattle.pd_bitmap.specs.Counts.{stored_all, stored_four}
use Rattle.pd_bitmap.proofs.Filled.{stored_none, stored_same}
use Rattle.pd_laid.specs.Laid.{bitmap_of, count_byte}
use Rattle.pd_count.specs.Counted.{count_of}
use Rattle.pd_smwrite.proofs.bitmaps.unsealed.Goals as goal

-- the bytes of the laid bitmap are those that are stored
row_is : (head : List ℕ) (counts : ℕ → ℕ) (n : ℕ) → head ++ map (stored_four counts) (range_with_len 0 n) ≡ head ++ map (count_byte counts) (range_with_len 0 n)
unfolding stored_four count_byte
row_is head counts n = refl

bitmap_is : (counts : ℕ → ℕ) → stored_all counts ≡ bitmap_of counts
unfolding stored_all bitmap_of
bitmap_is counts = row_is (replicate 16 0) counts 4080

pub returns-in-None : goal.returns-in-None
returns-in-None c =
    let counts : ℕ → ℕ = λ e. count_of c.args.counts.now (16320 * c.args.i + e) in
    c.new_bitmap.ensures.block ∙ (sym (stored_none counts c.in-None.ensures) ∙ bitmap_is counts)

pub returns-in-Some : goal.returns-in-Some
returns-in-Some c =
    let counts : ℕ → ℕ = λ e. count_of c.args.counts.now (16320 * c.args.i + e) in
    c.counted.ensures ∙ (stored_same (slice_index c.in-Some.chunk.now) counts c.in-Some.ensures.counted ∙ bitmap_is counts)
