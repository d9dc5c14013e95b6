-- How free blocks that are gathered join.
use Rattle.std.proofs.Common.{◌≡◌, ◌∙◌, ℕ, zero, suc, ◌+◌, ◌-◌, ◌<◌, ◌≤◌, Option, Bool, true, false, cond, List, [], ◌∷◌, ◌++◌, length, take, ap, sym, refl, subst, arith, append_assoc, append-nil, length-append, not, ◌&&◌, nat_eq, eq-eqb}
use Rattle.std.specs.Prelude.{◌==◌, filter}
use Rattle.std.specs.List.{range_with_len}
use Rattle.std.proofs.lemmas.List.{length-take, take-append-le}
use Rattle.std.proofs.lemmas.List.Elements.{filter-append}
use Rattle.std.specs.Str.{bytes_eq}
use Rattle.std.proofs.lemmas.Bool.{or_parts, not-false}
use Rattle.std.proofs.lemmas.Slice.Eq.{bytes_eq-Decides}
use Rattle.pd_kinds.proofs.NumberLemmas.{range_split, first_not}
use Rattle.pd_kinds.specs.declared.kind.Kind.TheVariants.{Thin}
use Rattle.pd_kinds.specs.Bitmap.{bitmaps_for}
use Rattle.pd_kinds.specs.Graph.{block_at, data_count}
use Rattle.pd_kinds.specs.Node.{Entry}
use Rattle.pd_kinds.specs.Rule.{same_rule}
use Rattle.pd_kinds.specs.Stages.{IsClean, thin_checked}
use Rattle.pd_kinds.specs.ThinFormat.{thin_graph, thin_fields}
use Rattle.pd_kinds.specs.Trees.{entries_below, keys_of, stored_data_in}
use Rattle.pd_kinds.specs.Whole.{data_index_entries, thin_whole, whole_bad}
use Rattle.pd_kinds.proofs.KindLemmas.{data_blocks_are}
use Rattle.pd_kinds.specs.declared.rule.Rule.TheVariants as r
use Rattle.pd_answers.specs.Shrinks.{free_blocks}
use Rattle.pd_smap.specs.Steps.{stored_by}
use Rattle.pd_smap.proofs.MapLemmas.{few_bits, many_bits}
use Rattle.pd_smap.specs.Overflow.{index_of, overflow_of}
use Rattle.pd_laws_changed.specs.KnownPool.{AreBelow, Ascend}
use Rattle.pd_shrink.specs.declared.free.FreeBlocks.{FreeBlocks}
use Rattle.pd_shrink.specs.Gathered.{Gathers, HoldsFirstFree, AscendWithin, numbers_where, is_zero, is_unused, unused_below}

-- some blocks, and then more
pub chosen_split : (is : ℕ → Bool) (low m n : ℕ) → numbers_where is low (m + n) ≡ numbers_where is low m ++ numbers_where is (low + m) n
unfolding numbers_where
chosen_split is low m n = ap (filter is) (range_split low m n) ∙ filter-append is (range_with_len low m) (range_with_len (low + m) n)

-- one block
pub chosen_one : (is : ℕ → Bool) (d : ℕ) (free : Bool) → free ≡ is d → numbers_where is d 1 ≡ cond free (d ∷ []) []
unfolding numbers_where
chosen_one is d free says = ap (λ t. cond t (d ∷ []) []) (sym says)

-- blocks of which the same holds
pub chosen_same : (one other : ℕ → Bool) (low len : ℕ) → ((d : ℕ) → low ≤ d → d < low + len → one d ≡ other d) → numbers_where one low len ≡ numbers_where other low len
unfolding numbers_where
chosen_same one other low zero same = refl
chosen_same one other low (suc len) same =
    ap (λ t. cond t (low ∷ numbers_where one (low + 1) len) (numbers_where one (low + 1) len)) (same low (omega arith) (omega arith))
    ∙ ap (λ (ds : List ℕ). cond (other low) (low ∷ ds) ds) (chosen_same one other (low + 1) len (λ d from below. same d (omega arith) (omega arith)))

-- blocks of which it holds nowhere, or everywhere
pub chosen_none : (is : ℕ → Bool) (low len : ℕ) → ((d : ℕ) → low ≤ d → d < low + len → is d ≡ false) → numbers_where is low len ≡ []
unfolding numbers_where
chosen_none is low zero none = refl
chosen_none is low (suc len) none =
    ap (λ t. cond t (low ∷ numbers_where is (low + 1) len) (numbers_where is (low + 1) len)) (none low (omega arith) (omega arith))
    ∙ chosen_none is (low + 1) len (λ d from below. none d (omega arith) (omega arith))

pub chosen_all : (is : ℕ → Bool) (low len : ℕ) → ((d : ℕ) → low ≤ d → d < low + len → is d ≡ true) → numbers_where is low len ≡ range_with_len low len
unfolding numbers_where
chosen_all is low zero each = refl
chosen_all is low (suc len) each =
    ap (λ t. cond t (low ∷ numbers_where is (low + 1) len) (numbers_where is (low + 1) len)) (each low (omega arith) (omega arith))
    ∙ ap (λ (ds : List ℕ). low ∷ ds) (chosen_all is (low + 1) len (λ d from below. each d (omega arith) (omega arith)))

-- two bits below 3 are the count, and others leave it to the overflow tree
pub zero_by_bits : (found bits : ℕ) (over : Option ℕ) → found ≡ bits → found < 3 → (found == 0) ≡ is_zero (stored_by bits over)
zero_by_bits found bits over same few = sym (ap is_zero (few_bits found over few)) ∙ ap (λ n. is_zero (stored_by n over)) same

pub zero_by_tree : (found bits : ℕ) (over : Option ℕ) → found ≡ bits → 3 ≤ found → is_zero over ≡ is_zero (stored_by bits over)
zero_by_tree found bits over same many = sym (ap is_zero (many_bits found over many)) ∙ ap (λ n. is_zero (stored_by n over)) same

-- nothing was gathered
pub gathers_none : (wanted : ℕ) (free : FreeBlocks) → Gathers wanted [] free free
gathers_none wanted free all held = subst (λ ds. HoldsFirstFree wanted ds free) (sym (append-nil all)) held

-- blocks where nothing more is kept
pub gathers_full : (wanted : ℕ) (more : List ℕ) (old new : FreeBlocks) → new.number ≡ old.number + length more → new.first.items ≡ old.first.items
    → wanted ≤ length old.first.items → Gathers wanted more old new
gathers_full wanted more old new number same full all held =
    let enough : wanted ≤ length all = omega (arith, full, ap length held.first, length-take wanted all) in
    record {
      number = number ∙ ap (λ n. n + length more) held.number ∙ sym (length-append all more);
      first = same ∙ held.first ∙ sym (take-append-le wanted all more enough);
    }

-- some blocks, and then more
pub gathers_then : (wanted : ℕ) (some more : List ℕ) (x y z : FreeBlocks) → Gathers wanted some x y → Gathers wanted more y z → Gathers wanted (some ++ more) x z
gathers_then wanted some more x y z first next all held =
    subst (λ ds. HoldsFirstFree wanted ds z) (append_assoc all some more) (next (all ++ some) (first all held))

-- blocks below a number are below a greater one, and those that ascend from one on do so from a lesser one on
below_later : (low high : ℕ) (ds : List ℕ) → low ≤ high → AreBelow low ds → AreBelow high ds
below_later low high [] order below = tt
below_later low high (d ∷ ds) order below = (omega (arith, below.0), below_later low high ds order below.1)

ascend_earlier : (low high : ℕ) (ds : List ℕ) → low ≤ high → Ascend high ds → Ascend low ds
ascend_earlier low high [] order ascend = tt
ascend_earlier low high (d ∷ ds) order ascend = (omega (arith, ascend.0), ascend.1)

below_append : (high : ℕ) (xs ys : List ℕ) → AreBelow high xs → AreBelow high ys → AreBelow high (xs ++ ys)
below_append high [] ys first next = next
below_append high (x ∷ xs) ys first next = (first.0, below_append high xs ys first.1 next)

ascend_append : (low middle : ℕ) (xs ys : List ℕ) → low ≤ middle → AreBelow middle xs → Ascend low xs → Ascend middle ys → Ascend low (xs ++ ys)
ascend_append low middle [] ys order below first next = ascend_earlier low middle ys order next
ascend_append low middle (x ∷ xs) ys order below first next =
    (first.0, ascend_append (x + 1) middle xs ys (omega (arith, below.0)) below.1 first.1 next)

-- blocks, and later ones
pub lie_then : (low middle high : ℕ) (xs ys : List ℕ) → low ≤ middle → middle ≤ high → AscendWithin low middle xs → AscendWithin middle high ys → AscendWithin low high (xs ++ ys)
lie_then low middle high xs ys from to first next = record {
  below = below_append high xs ys (below_later middle high xs to first.below) next.below;
  ascend = ascend_append low middle xs ys from first.below first.ascend next.ascend;
}

-- all blocks of a row
below_row : (low len high : ℕ) → low + len ≤ high → AreBelow high (range_with_len low len)
below_row low zero high most = tt
below_row low (suc len) high most = (omega arith, below_row (low + 1) len high (omega arith))

ascend_row : (low len : ℕ) → Ascend low (range_with_len low len)
ascend_row low zero = tt
ascend_row low (suc len) = (omega arith, ascend_row (low + 1) len)

pub lie_row : (low len : ℕ) → AscendWithin low (low + len) (range_with_len low len)
lie_row low len = record { below = below_row low len (low + len) (omega arith); ascend = ascend_row low len }

-- as many as fit between
length-between : (low high : ℕ) (ds : List ℕ) → AreBelow high ds → Ascend low ds → length ds ≤ high - low
length-between low high [] below ascend = omega arith
length-between low high (d ∷ ds) below ascend =
    let rest = length-between (d + 1) high ds below.1 ascend.1 in omega (arith, rest, below.0, ascend.0)

pub length-lie : (high : ℕ) (ds : List ℕ) → AscendWithin 0 high ds → length ds ≤ high
length-lie high ds lie = let few = length-between 0 high ds lie.below lie.ascend in omega (arith, few)

-- the first ones of them
take_below : (n high : ℕ) (ds : List ℕ) → AreBelow high ds → AreBelow high (take n ds)
take_below zero high ds below = tt
take_below (suc n) high [] below = tt
take_below (suc n) high (d ∷ ds) below = (below.0, take_below n high ds below.1)

take_ascend : (n low : ℕ) (ds : List ℕ) → Ascend low ds → Ascend low (take n ds)
take_ascend zero low ds ascend = tt
take_ascend (suc n) low [] ascend = tt
take_ascend (suc n) low (d ∷ ds) ascend = (ascend.0, take_ascend n (d + 1) ds ascend.1)

pub lie_first : (n low high : ℕ) (ds : List ℕ) → AscendWithin low high ds → AscendWithin low high (take n ds)
lie_first n low high ds lie = record { below = take_below n high ds lie.below; ascend = take_ascend n low ds lie.ascend }

-- The stored counts of data blocks in a pool without faults.

-- the index has an entry for each bitmap, by the rule Index
pub index_keys : (image : List (List ℕ)) → IsClean Thin image → (thin_fields (block_at image 0)).data_map.bitmap_root < (thin_graph (block_at image 0)).nr
    → keys_of (data_index_entries (thin_graph (block_at image 0)) image) ≡ range_with_len 0 (bitmaps_for (thin_fields (block_at image 0)).data_map.blocks)
unfolding thin_checked whole_bad thin_whole
index_keys image clean within =
    let root = (thin_fields (block_at image 0)).data_map.bitmap_root in
    let graph = thin_graph (block_at image 0) in
    let keys = keys_of (data_index_entries graph image) in
    let wanted = range_with_len 0 (bitmaps_for graph.data_blocks) in
    let none = (or_parts _ _ (clean.whole root r.Index within)).0 in
    let here : (nat_eq root root && same_rule r.Index r.Index) ≡ true = rw (eq-eqb root root refl) refl in
    let fails = first_not (not (bytes_eq keys wanted)) (nat_eq root root && same_rule r.Index r.Index) here none in
    (bytes_eq-Decides keys wanted).0 (not-false (bytes_eq keys wanted) fails)
    ∙ ap (λ (n : ℕ). range_with_len 0 (bitmaps_for n)) (data_blocks_are (block_at image 0))

-- the blocks whose stored count is 0 are those without a reference, where the trees that are read hold the format's entries
pub free_same : (image : List (List ℕ)) (end : ℕ) → IsClean Thin image → end ≤ (thin_fields (block_at image 0)).data_map.blocks
    → ((d : ℕ) (overflow : List Entry) → stored_data_in image (index_of image (thin_fields (block_at image 0)).data_map.bitmap_root) overflow d
    ≡ stored_data_in image (data_index_entries (thin_graph (block_at image 0)) image) overflow d)
    → overflow_of image (thin_fields (block_at image 0)).data_map.overflow_root ≡ entries_below (thin_graph (block_at image 0)) image 4 7 (thin_fields (block_at image 0)).data_map.overflow_root
    → unused_below image (thin_fields (block_at image 0)).data_map end ≡ free_blocks image end
unfolding thin_checked unused_below free_blocks numbers_where
free_same image end clean within index overflow =
    let graph = thin_graph (block_at image 0) in
    let map = (thin_fields (block_at image 0)).data_map in
    chosen_same (is_unused image map) (λ d. data_count graph image d == 0) 0 end (λ d from below.
    ap is_zero (index d (overflow_of image map.overflow_root)
    ∙ ap (λ (entries : List Entry). stored_data_in image (data_index_entries graph image) entries d) overflow
    ∙ clean.data_counts d (omega (arith, below, within, data_blocks_are (block_at image 0)))))
