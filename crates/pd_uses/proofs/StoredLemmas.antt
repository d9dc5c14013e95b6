-- The stored counts of data blocks, step after step, and in a pool without faults.
use Rattle.std.proofs.Common.{◌≡◌, ◌∙◌, ℕ, ◌+◌, ◌-◌, ◌*◌, ◌/◌, ◌%◌, ◌<◌, ◌≤◌, min, Option, Some, Bool, true, List, ap, sym, refl, subst, arith, not, ◌&&◌, nat_eq, eq-eqb}
use Rattle.std.specs.Prelude.{◌==◌}
use Rattle.std.specs.List.{range_with_len}
use Rattle.std.specs.Str.{bytes_eq}
use Rattle.std.proofs.lemmas.Bool.{or_parts, not-false}
use Rattle.std.proofs.lemmas.Slice.Eq.{bytes_eq-Decides}
use Rattle.pd_kinds.specs.declared.kind.Kind.TheVariants.{Thin}
use Rattle.pd_kinds.specs.declared.superblocks.SmRoot.{SmRoot}
use Rattle.pd_kinds.specs.Bitmap.{bitmaps_for, two_bits_of}
use Rattle.pd_kinds.specs.Graph.{block_at, data_count}
use Rattle.pd_kinds.specs.Node.{Entry}
use Rattle.pd_kinds.specs.Rule.{same_rule}
use Rattle.pd_kinds.specs.Stages.{IsClean, thin_checked}
use Rattle.pd_kinds.specs.ThinFormat.{thin_fields, thin_graph}
use Rattle.pd_kinds.specs.Trees.{entries_below, keys_of, stored_data_in, value_of_key}
use Rattle.pd_kinds.specs.Whole.{data_index_entries, thin_whole, whole_bad}
use Rattle.pd_kinds.specs.declared.rule.Rule.TheVariants as r
use Rattle.pd_kinds.proofs.KindLemmas.{data_blocks_are}
use Rattle.pd_kinds.proofs.NumberLemmas.{first_not}
use Rattle.pd_value.specs.declared.space_map.Count.{Count}
use Rattle.pd_value.specs.declared.space_map.IndexEntry.{IndexEntry}
use Rattle.pd_bitmap.specs.Counts.{AreAll}
use Rattle.pd_answers.specs.QueryLines.{is_unused}
use Rattle.pd_smap.specs.Overflow.{IsIndex, data_place, index_of, overflow_of, place_in}
use Rattle.pd_smap.specs.Steps.{IsAhead, stored_by}
use Rattle.pd_smap.proofs.MapLemmas.{few_bits, many_bits, stored_data_is}
use Rattle.pd_smap.proofs.OverflowLeftLemmas.{ahead_later}
use Rattle.pd_uses.specs.declared.stored.Stretch.{Stretch}
use Rattle.pd_uses.specs.Stored.{AreLeft, IsTold, bits_of, is_free, is_zero}

-- a stored count by its two bits
pub zero_by_bits : (found bits : ℕ) (over : Option ℕ) → found ≡ bits → found < 3 → (found == 0) ≡ is_zero (stored_by bits over)
zero_by_bits found bits over same few = sym (ap is_zero (few_bits found over few)) ∙ ap (λ n. is_zero (stored_by n over)) same

pub zero_by_tree : (found bits : ℕ) (over : Option ℕ) → found ≡ bits → 3 ≤ found → is_zero over ≡ is_zero (stored_by bits over)
zero_by_tree found bits over same many = sym (ap is_zero (many_bits found over many)) ∙ ap (λ n. is_zero (stored_by n over)) same

module _ (image : List (List ℕ)) (map : SmRoot) where
  abbrev over_of : ℕ → Option ℕ
  over_of = value_of_key (overflow_of image map.overflow_root)

  -- the next bitmap was read
  pub turned : (bitmaps at place : ℕ) (bitmap other : List ℕ) (index next : List (ℕ × IndexEntry)) (over : List (ℕ × Count))
      → at ≡ 16320 * bitmaps → place_in index 0 ≡ place → ((i : ℕ) → place_in index (i + 1) ≡ place_in next i)
      → ((e : ℕ) → two_bits_of other e ≡ two_bits_of (block_at image place) e)
      → AreLeft image map bitmaps bitmap at index over → AreLeft image map (bitmaps + 1) other at next over
  turned bitmaps at place bitmap other index next over starts first rest read left = record {
    bits = λ b from below.
        let which : bitmaps + 0 ≡ b / 16320 = omega (arith, starts, from, below) in
        read (b % 16320) ∙ ap (λ (p : ℕ). two_bits_of (block_at image p) (b % 16320)) (sym first ∙ left.places 0 ∙ ap (data_place map.bitmap_root image) which);
    places = λ i.
        let sum : bitmaps + (i + 1) ≡ bitmaps + 1 + i = omega arith in
        sym (rest i) ∙ left.places (i + 1) ∙ ap (data_place map.bitmap_root image) sum;
    ahead = left.ahead;
  }

  -- as many bitmaps
  pub left_many : (m n at : ℕ) (bitmap : List ℕ) (index : List (ℕ × IndexEntry)) (over : List (ℕ × Count)) → m ≡ n
      → AreLeft image map m bitmap at index over → AreLeft image map n bitmap at index over
  left_many m n at bitmap index over many left = subst (λ k. AreLeft image map k bitmap at index over) many left

  -- blocks were passed
  pub left_later : (m n at later : ℕ) (bitmap : List ℕ) (index : List (ℕ × IndexEntry)) (over rest : List (ℕ × Count)) → m ≡ n → at ≤ later → IsAhead at over_of rest
      → AreLeft image map m bitmap at index over → AreLeft image map n bitmap later index rest
  left_later m n at later bitmap index over rest many order ahead left = left_many m n later bitmap index rest many (record {
    bits = λ b from below. left.bits b (omega (arith, order, from)) below;
    places = left.places;
    ahead = ahead_later at later over_of rest order ahead;
  })

  -- the blocks of a group whose counts are one number
  pub group_told : (at g number length : ℕ) (bitmap : List ℕ) (index : List (ℕ × IndexEntry)) (over : List (ℕ × Count)) → at % 16320 ≡ 32 * g → length ≤ 32
      → AreAll bitmap g number → AreLeft image map (at / 16320 + 1) bitmap at index over → IsTold image map (record { first = at; length = length; unused = number == 0 })
  group_told at g number length bitmap index over entry few all left = λ b from below.
      let within : b < 16320 * (at / 16320 + 1) = omega (arith, entry, few, from, below) in
      let place : b % 16320 ≡ 32 * g + (b - at) = omega (arith, entry, few, from, below) in
      ap (λ (n : ℕ). is_zero (stored_by n (over_of b))) (sym (left.bits b from within) ∙ ap (two_bits_of bitmap) place ∙ all.counts (b - at) (omega (arith, few, from, below)))
      ∙ ap is_zero (few_bits number (over_of b) all.held)

  -- one block
  pub block_told : (at : ℕ) (unused : Bool) (bitmap : List ℕ) (index : List (ℕ × IndexEntry)) (over : List (ℕ × Count))
      → unused ≡ is_zero (stored_by (two_bits_of bitmap (at % 16320)) (over_of at)) → AreLeft image map (at / 16320 + 1) bitmap at index over
      → IsTold image map (record { first = at; length = 1; unused = unused })
  block_told at unused bitmap index over says left = λ b from below.
      let same : at ≡ b = omega (arith, from, below) in
      let here : is_free image map at ≡ unused = ap (λ (n : ℕ). is_zero (stored_by n (over_of at))) (sym (left.bits at (omega arith) (omega arith))) ∙ sym says in
      subst (λ k. is_free image map k ≡ unused) same here

-- the index has an entry for each bitmap, by the rule Index
pub index_keys : (image : List (List ℕ)) → IsClean Thin image → (thin_fields (block_at image 0)).data_map.bitmap_root < (thin_graph (block_at image 0)).nr
    → keys_of (data_index_entries (thin_graph (block_at image 0)) image) ≡ range_with_len 0 (bitmaps_for (thin_fields (block_at image 0)).data_map.blocks)
unfolding thin_checked whole_bad thin_whole
index_keys image clean within =
    let root = (thin_fields (block_at image 0)).data_map.bitmap_root in
    let graph = thin_graph (block_at image 0) in
    let keys = keys_of (data_index_entries graph image) in
    let wanted = range_with_len 0 (bitmaps_for graph.data_blocks) in
    let none = (or_parts _ _ (clean.whole root r.Index within)).0 in
    let here : (nat_eq root root && same_rule r.Index r.Index) ≡ true = rw (eq-eqb root root refl) refl in
    let fails = first_not (not (bytes_eq keys wanted)) (nat_eq root root && same_rule r.Index r.Index) here none in
    (bytes_eq-Decides keys wanted).0 (not-false (bytes_eq keys wanted) fails)
    ∙ ap (λ (n : ℕ). range_with_len 0 (bitmaps_for n)) (data_blocks_are (block_at image 0))

-- a block whose stored count is 0 is one without a reference, where the trees that are read hold the format's entries
pub free_same : (image : List (List ℕ)) (b : ℕ) → IsClean Thin image → b < (thin_fields (block_at image 0)).data_map.blocks
    → IsIndex image (thin_fields (block_at image 0)).data_map.bitmap_root (thin_fields (block_at image 0)).data_map.blocks
    → ((overflow : List Entry) → stored_data_in image (index_of image (thin_fields (block_at image 0)).data_map.bitmap_root) overflow b
    ≡ stored_data_in image (data_index_entries (thin_graph (block_at image 0)) image) overflow b)
    → overflow_of image (thin_fields (block_at image 0)).data_map.overflow_root ≡ entries_below (thin_graph (block_at image 0)) image 4 7 (thin_fields (block_at image 0)).data_map.overflow_root
    → is_free image (thin_fields (block_at image 0)).data_map b ≡ is_unused (thin_graph (block_at image 0)) image b
unfolding thin_checked
free_same image b clean within keys index overflow =
    let graph = thin_graph (block_at image 0) in
    let map = (thin_fields (block_at image 0)).data_map in
    ap is_zero (sym (stored_data_is image map.bitmap_root map.blocks b (overflow_of image map.overflow_root) keys within)
    ∙ index (overflow_of image map.overflow_root)
    ∙ ap (λ (entries : List Entry). stored_data_in image (data_index_entries graph image) entries b) overflow
    ∙ clean.data_counts b (omega (arith, within, data_blocks_are (block_at image 0))))
