-- What is read of a bitmap or an index block that was sealed in its place.
use borrow.Author.Count.{below_more}
use Rattle.std.proofs.Common.{◌≡◌, inr, ℕ, ◌+◌, ◌*◌, ◌/◌, ◌^◌, ◌<◌, ◌≤◌, true, false, ◌&&◌, List, map, length, get_or, refl, ap, ◌∙◌, arith, eq-eqb, ◌%◌, Bool, ◌||◌, ◌∷◌, [], take, Some, sym}
use Rattle.std.proofs.Math.Bool.{and-false, or-false}
use Rattle.std.proofs.Math.Path.{fun_ext}
use Rattle.std.specs.List.{list_any, range_with_len, All, slice_get}
use Rattle.std.proofs.lemmas.List.Folds.{list_any-append}
use Rattle.std.proofs.lemmas.List.{get_or-map, get_or_default, length-map}
use Rattle.std.proofs.Math.Nat.{add-mul-mod_self_left, mod-eq_of_lt}
use Rattle.std.proofs.lemmas.Option.{slice_get-get_or}
use Rattle.std.proofs.lemmas.List.FromFn.{map-range_with_len_more}
use Rattle.pd_kinds.specs.declared.rule.Rule.{Rule}
use Rattle.pd_kinds.specs.Field.{le, put, checksum, has_checksum, sealed, zeros, index_code}
use Rattle.pd_kinds.specs.Rule.{same_rule, alone, failing}
use Rattle.pd_kinds.specs.Graph.{is_outside}
use Rattle.pd_kinds.specs.Bitmap.{bitmap_bad, bitmaps_for, index_bad, index_blocks, index_tests, map_place, placed_block, two_bits_of, index_code_at, unsealed_index}
use Rattle.pd_kinds.proofs.FieldLemmas.{get_or-put_other, le-put, le-put_other, le-puts, row_more, le_join, le-lt}
use Rattle.pd_kinds.proofs.WrittenLemmas.{le-sealed_other, length-zeros}
use Rattle.pd_kinds.specs.Node.{puts}
use Rattle.pd_kinds.specs.declared.rule.Rule.TheVariants as r
use Rattle.pd_value.specs.declared.space_map.IndexEntry.{IndexEntry}
use Rattle.pd_bitmap.specs.Counts.{DoFieldsFit}

-- a byte behind the header stays
pub get_or-placed : (salt place : ℕ) (b : List ℕ) (j : ℕ) → 16 ≤ j → get_or (placed_block salt place b) j 0 ≡ get_or b j 0
unfolding placed_block sealed
get_or-placed salt place b j behind =
    get_or-put_other (put b 8 8 place) 0 4 (checksum (put b 8 8 place) salt) j (inr (omega arith))
    ∙ get_or-put_other b 8 8 place j (inr (omega arith))

-- a field behind the header stays
pub le-placed : (salt place : ℕ) (b : List ℕ) (p n : ℕ) → 16 ≤ p → le (placed_block salt place b) p n ≡ le b p n
unfolding placed_block
le-placed salt place b p n behind =
    le-sealed_other (put b 8 8 place) salt p n (omega arith) ∙ le-put_other b 8 8 place p n (inr (omega arith))

-- the place reads back
pub place-placed : (salt place : ℕ) (b : List ℕ) → 16 ≤ length b → place < 256 ^ 8 → map_place (placed_block salt place b) ≡ place
unfolding placed_block
place-placed salt place b within fits =
    le-sealed_other (put b 8 8 place) salt 8 8 (omega arith) ∙ le-put b 8 8 place within fits

-- each count stays
pub two_bits-placed : (salt place : ℕ) (b : List ℕ) (i : ℕ) → two_bits_of (placed_block salt place b) i ≡ two_bits_of b i
unfolding two_bits_of
two_bits-placed salt place b i =
    let byte = get_or-placed salt place b (16 + i / 4) (omega arith) in
    rw byte refl

-- with the checksum and the place a bitmap breaks no rule
pub bitmap_met : (place : ℕ) (b : List ℕ) (asked : Rule) → has_checksum b 240779 ≡ true → map_place b ≡ place → bitmap_bad place b asked ≡ false
unfolding bitmap_bad alone failing
bitmap_met place b asked valid at = rw (valid, eq-eqb (map_place b) place at) refl

-- with the checksum the table decides the rules of an index block
index_decided : (nr place : ℕ) (b : List ℕ) (asked : Rule) → has_checksum b 160478 ≡ true → index_bad nr place b asked ≡ failing (index_tests nr place b) asked
unfolding index_bad alone
index_decided nr place b asked valid = rw valid refl

pub index_checksum_met : (nr place : ℕ) (b : List ℕ) → has_checksum b 160478 ≡ true → index_bad nr place b r.Checksum ≡ false
unfolding failing index_tests
index_checksum_met nr place b valid = rw (index_decided nr place b r.Checksum valid) (simp and-false)

pub index_place_met : (nr place : ℕ) (b : List ℕ) → has_checksum b 160478 ≡ true → map_place b ≡ place → index_bad nr place b r.Place ≡ false
unfolding failing index_tests
index_place_met nr place b valid at = rw (index_decided nr place b r.Place valid) (simp (and-false, eq-eqb (map_place b) place at))

-- each named block stays
blocks-placed : (salt place nr : ℕ) (b : List ℕ) → index_blocks nr (placed_block salt place b) ≡ index_blocks nr b
unfolding index_blocks
blocks-placed salt place nr b =
    ap (λ (f : ℕ → ℕ). map f (range_with_len 0 (bitmaps_for nr))) (fun_ext (λ i. le-placed salt place b (16 + 16 * i) 8 (omega arith)))

-- with the checksum and the place an index block breaks at most Pointer
pub index_met : (nr place : ℕ) (b c : List ℕ) (asked : Rule) → has_checksum c 160478 ≡ true → map_place c ≡ place → c ≡ placed_block 160478 place b
    → index_bad nr place c asked ≡ (list_any (λ (block : ℕ). is_outside nr block) (index_blocks nr b) && same_rule r.Pointer asked)
unfolding failing index_tests
index_met nr place b c asked valid at written =
    let blocks : index_blocks nr c ≡ index_blocks nr b = rw written (blocks-placed 160478 place nr b) in
    rw (index_decided nr place c asked valid, eq-eqb (map_place c) place at, blocks)
    (or-false (list_any (λ (block : ℕ). is_outside nr block) (index_blocks nr b) && same_rule r.Pointer asked))

-- The entries of an index block: the row that is written, and the blocks that are looked at.

-- a loop's step: one element more of a row is tested
pub any_more : (p : ℕ → Bool) (f : ℕ → ℕ) (i : ℕ)
    → list_any p (map f (range_with_len 0 (i + 1))) ≡ (list_any p (map f (range_with_len 0 i)) || p (f i))
any_more p f i = rw (map-range_with_len_more f 0 i i (omega arith), list_any-append p (map f (range_with_len 0 i)) (f i ∷ []), or-false (p (f i))) refl

-- the number of an entry, and the entry of a number
abbrev pub code_of : IndexEntry → ℕ
code_of entry = index_code entry.block entry.free entry.none_before

abbrev pub entry_of : ℕ → IndexEntry
entry_of number = record {
  block = number % 2 ^ 64;
  free = number / 2 ^ 64 % 2 ^ 32;
  none_before = number / 2 ^ 96;
}

-- an entry's number fits its sixteen bytes, and has its fields
pub code_fits : (entry : IndexEntry) → DoFieldsFit entry → code_of entry < 256 ^ 16
code_fits entry fit = omega (arith, fit.block, fit.free, fit.none_before)

pub entry_read : (entry : IndexEntry) → DoFieldsFit entry → entry_of (code_of entry) ≡ entry
entry_read entry fit =
    let block : code_of entry % 2 ^ 64 ≡ entry.block = omega (arith, fit.block) in
    let free : code_of entry / 2 ^ 64 % 2 ^ 32 ≡ entry.free = omega (arith, fit.block, fit.free) in
    let none_before : code_of entry / 2 ^ 96 ≡ entry.none_before = omega (arith, fit.block, fit.free) in
    rw (block, free, none_before) refl

-- each entry of an index block reads back
pub entry_found : (entries : List IndexEntry) (i : ℕ) → length entries ≤ 255 → i < length entries → All DoFieldsFit entries
    → slice_get entries i ≡ Some (entry_of (index_code_at (unsealed_index (map code_of entries)) i))
unfolding unsealed_index
entry_found entries i few within fit =
    let d = entry_of 0 in
    let count = length-map entries code_of in
    let zeros_len = length-zeros in
    let fields = fit i d within in
    let here : get_or (map code_of entries) i 0 ≡ code_of (get_or entries i d) = get_or-map code_of entries i d 0 within in
    let small : get_or (map code_of entries) i 0 < 256 ^ 16 = rw here (code_fits (get_or entries i d) fields) in
    let code = le-puts zeros 16 16 (map code_of entries) i (omega arith) (omega arith) small ∙ here in
    rw (code, entry_read (get_or entries i d) fields) (slice_get-get_or entries i d within)

-- a loop's step: one entry more is written
pub entry_more : (b old new : List ℕ) (entries : List IndexEntry) (i : ℕ) (d : IndexEntry) → i < length entries
    → old ≡ puts b 16 16 (map code_of (take i entries)) → new ≡ put old (16 + 16 * i) 16 (code_of (get_or entries i d))
    → new ≡ puts b 16 16 (map code_of (take (i + 1) entries))
entry_more b old new entries i d within before written = rw (written, before) (sym (row_more code_of b 16 16 entries i d within))

-- a loop's step: one entry more fits
pub fit_more : (entries : List IndexEntry) (i : ℕ) (d : IndexEntry) → i < length entries
    → ((k : ℕ) (e : IndexEntry) → k < i → DoFieldsFit (get_or entries k e)) → DoFieldsFit (get_or entries i d)
    → (k : ℕ) (e : IndexEntry) → k < i + 1 → DoFieldsFit (get_or entries k e)
fit_more entries i d within before fit k e below =
    let here : DoFieldsFit (get_or entries i e) = rw (get_or_default entries i e d within) fit in
    below_more (λ n. DoFieldsFit (get_or entries n e)) i (λ n h. before n e h) here k below

-- the block of an entry is the field at its front
pub block_of_code : (b : List ℕ) (o : ℕ) → ((k : ℕ) → get_or b k 0 < 256) → le b o 16 % 2 ^ 64 ≡ le b o 8
block_of_code b o bytes =
    let small = le-lt b o 8 bytes in
    rw (le_join b o 8 8) (add-mul-mod_self_left (le b o 8) (2 ^ 64) (le b (o + 8) 8) ∙ mod-eq_of_lt small)
