-- What is known of a cache without faults: its words, and where its roots are.
use Rattle.std.proofs.Common.{◌≡◌, ℕ, zero, suc, ◌+◌, ◌^◌, ◌<◌, Bool, List, [], ◌∷◌, length, get_or, drop, map, filter, Option, refl, ap, ap₂, ◌∙◌, arith, inl, inr, ◌-◌, ◌/◌, ◌%◌, ◌≤◌, ◌++◌, sym, true, false, not, cond, ◌&&◌, nat_eq, Some, None}
use Rattle.std.specs.List.{range_with_len, flat_map}
use Rattle.std.proofs.lemmas.Bool.{cases_Bool, cases_lt, eq-eqb, true≢false, and_parts, or_parts, not-false, not-true, eqb-true, eqb-false}
use Rattle.std.proofs.lemmas.List.{get_or-drop, get_or_append_left, get_or-append-add}
use Rattle.std.specs.Int.{bit_at}
use Rattle.std.proofs.Math.Nat.{div-eq-sub-div, mod-eq-sub-mod, div-eq_of_lt, mod-eq_of_lt}
use Rattle.std.proofs.lemmas.Nat.Bits.{bit_at-zero, bit_at-suc, bit_at_lowest}
use Rattle.pd_kinds.specs.Meaning.{CacheEntry, cache_dirty_bits, cache_hints, cache_meaning, is_bit_set, is_dirty_block}
use Rattle.pd_kinds.specs.Whole.{is_valid_word, origin_of_word, WholeTest, array_whole, array_words, bitmap_tests, cache_arrays, cache_whole, dirty_array, is_array_index_bad, is_dirty_word, mapping_array, whole_bad}
use Rattle.pd_kinds.specs.declared.kind.Kind.TheVariants.{Cache}
use Rattle.pd_kinds.specs.declared.rule.Rule.{Rule}
use Rattle.pd_kinds.specs.Rule.{same_rule}
use Rattle.pd_kinds.specs.CacheFormat.{CacheFields, cache_fields, cache_graph, has_dirty_bits}
use Rattle.pd_kinds.specs.Image.{HasBytes}
use Rattle.pd_kinds.proofs.FieldLemmas.{le-lt}
use Rattle.pd_kinds.specs.Graph.{Graph, block_at}
use Rattle.pd_kinds.specs.Layout.{graph_of}
use Rattle.pd_kinds.specs.Stages.{HasCleanSuper, IsReached, cache_checked, faults}
use Rattle.pd_kinds.proofs.CacheTable.{super_sound}
use Rattle.pd_kinds.proofs.CleanLemmas.{clean_super_where_none, whole_where_none}
use Rattle.pd_kinds.specs.Trees.{entries_below, words_of}
use Rattle.pd_kinds.proofs.KindsListLemmas.{none_last}
use Rattle.pd_kinds.specs.declared.kind.Stage.TheVariants as stages
use Rattle.pd_kinds.specs.declared.rule.Rule.TheVariants as r
use Rattle.pd_tree.specs.Search.{HasCacheRoots, HasCacheTrees, IsTreeRole}
use Rattle.pd_meaning_cache.specs.Rows.{bits_behind, block_after, is_dirty_by, rows_of, entry_of, bits_of, low_bits, GivesCache, words_below, RootsBelow, dirty_below, has_hints, hints_below, rows_below}
use Rattle.pd_meaning_cache.specs.declared.skipped_words.SkippedBits.{SkippedBits}
use Rattle.pd_meaning_cache.specs.SkippedWords.{IsFirst, Skips, skipped_words}
use Rattle.pd_meaning_cache.specs.Sides.{IsFirstBit, SkipsBits}
use Rattle.pd_meaning_cache.proofs.SkipLemmas.{drop_both, drop_none, skip_whole}

-- The rows of a mapping array are its valid entries, by their numbers.

-- one element more is left out
pub drop_next : {X : Type 0} (i : ℕ) (xs : List X) → drop 1 (drop i xs) ≡ drop (suc i) xs
drop_next zero xs = refl
drop_next (suc i) [] = refl
drop_next (suc i) (x ∷ xs) = drop_next i xs

-- the first of what is left from an index on
pub first_left : (i : ℕ) (xs : List ℕ) → get_or (drop i xs) 0 0 ≡ get_or xs i 0
first_left i xs = get_or-drop i xs 0 0 ∙ ap (λ (j : ℕ). get_or xs j 0) (omega arith)

-- bits may be left from each index on, and say of each block whether it is dirty
module _ (all hints : List ℕ) (bits : ℕ → Option (List ℕ)) (is_dirty : ℕ → Bool)
    (dirty_at : (i : ℕ) → is_dirty_by (bits i) (get_or all i 0) ≡ is_dirty i) (behind_at : (i : ℕ) → bits_behind 1 (bits i) ≡ bits (suc i)) where
  abbrev entry_at : ℕ → CacheEntry
  entry_at i = record { block = i; origin = origin_of_word (get_or all i 0); dirty = is_dirty i; hint = get_or hints i 0 }

  abbrev is_valid : ℕ → Bool
  is_valid i = is_valid_word (get_or all i 0)

  pub entries_from : (words : List ℕ) (i : ℕ) → words ≡ drop i all → i + length words < 2 ^ 64
      → map entry_of (rows_of i words (drop i hints) (bits i)) ≡ map entry_at (filter is_valid (range_with_len i (length words)))
  unfolding rows_of
  entries_from [] i is few = refl
  entries_from (word ∷ words) i is few =
      let here : word ≡ get_or all i 0 = ap (λ (xs : List ℕ). get_or xs 0 0) is ∙ first_left i all in
      let rest : words ≡ drop (suc i) all = ap (drop 1) is ∙ drop_next i all in
      let next : block_after 1 i ≡ suc i = omega arith in
      let one_more : suc i ≡ i + 1 = omega arith in
      let later =
      entries_from words (suc i) rest (omega arith)
      ∙ ap (λ (j : ℕ). map entry_at (filter is_valid (range_with_len j (length words)))) one_more in
      let dirty = rw (← here) at (dirty_at i) in
      rw (next, drop_next i hints, behind_at i, ← here) (elim (cases_Bool (is_valid_word word)) [
        | inl valid ↦ rw valid (ap₂ (λ (e : CacheEntry) (es : List CacheEntry). e ∷ es) (rw (dirty, first_left i hints) (ap (λ (x : ℕ). record { block = i; origin = origin_of_word x; dirty = is_dirty i; hint = get_or hints i 0 }) here)) later)
        | inr other ↦ rw other later
      ])

-- The bits of words, by their numbers.

length-low : (n word : ℕ) → length (low_bits n word) ≡ n
length-low zero word = refl
length-low (suc n) word = ap suc (length-low n (word / 2))

-- bit i among the lowest ones
low_at : (n word i : ℕ) → i < n → get_or (low_bits n word) i 0 ≡ bit_at word i
low_at zero word i few = absurd (omega arith)
low_at (suc n) word zero few = sym (bit_at_lowest word)
low_at (suc n) word (suc i) few = low_at n (word / 2) i (omega arith) ∙ sym (bit_at-suc word i)

-- bit i of words of n bits stands in word i / n
pub bits_at : (n : ℕ) → 1 ≤ n → (words : List ℕ) (i : ℕ) → get_or (flat_map (low_bits n) words) i 0 ≡ bit_at (get_or words (i / n) 0) (i % n)
bits_at n some [] i = sym (bit_at-zero (i % n))
bits_at n some (word ∷ words) i = elim (cases_lt i n) [
  | inl here ↦
      rw (div-eq_of_lt here, mod-eq_of_lt here)
      (get_or_append_left (low_bits n word) (flat_map (low_bits n) words) 0 i (omega (arith, length-low n word)) ∙ low_at n word i here)
  | inr behind ↦
      let word_is : i / n ≡ suc ((i - n) / n) = omega (arith, div-eq-sub-div {m = n} {n = i} some behind) in
      let place : i ≡ length (low_bits n word) + (i - n) = omega (arith, length-low n word) in
      ap (λ (j : ℕ). get_or (low_bits n word ++ flat_map (low_bits n) words) j 0) place
      ∙ (get_or-append-add (low_bits n word) (flat_map (low_bits n) words) (i - n) 0
      ∙ (bits_at n some words (i - n)
      ∙ sym (ap₂ (λ (j k : ℕ). bit_at (get_or (word ∷ words) j 0) k) word_is (mod-eq-sub-mod behind))))
]

-- bits that are skipped are words, and then bits of a word
drop_bits : (n : ℕ) → 1 ≤ n → (words : List ℕ) (i : ℕ) → drop i (flat_map (low_bits n) words) ≡ drop (i % n) (flat_map (low_bits n) (drop (i / n) words))
drop_bits n some [] i = drop_none i ∙ sym (ap (λ (xs : List ℕ). drop (i % n) (flat_map (low_bits n) xs)) (drop_none (i / n)) ∙ drop_none (i % n))
drop_bits n some (word ∷ words) i = elim (cases_lt i n) [
  | inl here ↦ rw (div-eq_of_lt here, mod-eq_of_lt here) refl
  | inr behind ↦
      let word_is : i / n ≡ suc ((i - n) / n) = omega (arith, div-eq-sub-div {m = n} {n = i} some behind) in
      let long = length-low n word in
      skip_whole i (low_bits n word) (flat_map (low_bits n) words) (omega arith)
      ∙ (ap (λ (j : ℕ). drop (i - j) (flat_map (low_bits n) words)) long
      ∙ (drop_bits n some words (i - n)
      ∙ sym (ap₂ (λ (j k : ℕ). drop k (flat_map (low_bits n) (drop j (word ∷ words)))) word_is (mod-eq-sub-mod behind))))
]

pub skip_bits : (words : List ℕ) (i : ℕ) → drop i (bits_of words) ≡ drop (i % 64) (bits_of (drop (i / 64) words))
skip_bits words i = drop_bits 64 (omega arith) words i

-- the first bit that is left of a word
pub first_bit : (words : List ℕ) (i : ℕ) → i < 64 → get_or (drop i (bits_of words)) 0 0 ≡ bit_at (get_or words 0 0) i
first_bit words i within =
    let at = bits_at 64 (omega arith) words i in
    first_left i (bits_of words) ∙ rw (div-eq_of_lt within, mod-eq_of_lt within) at at

-- bits are skipped with their words
pub skips_bits : (image : List (List ℕ)) (n : ℕ) (old new : SkippedBits) → new.bit ≡ (old.bit + n) % 64 → Skips image ((old.bit + n) / 64) old.words new.words → SkipsBits image n old new
skips_bits image n old new bit skips =
    let words = skipped_words image old.words in
    record {
      knows = skips.knows;
      bits = rw (bit, skips.words) (sym (skip_bits words (old.bit + n))) ∙ sym (drop_both n old.bit (bits_of words));
    }

-- the first bit is one of the first word
pub is_first_bit : (image : List (List ℕ)) (word : ℕ) (old new : SkippedBits) → old.bit < 64 → new.bit ≡ old.bit → IsFirst image word old.words new.words → IsFirstBit image (word / 2 ^ old.bit % 2) old new
is_first_bit image word old new within bit first =
    let words = skipped_words image old.words in
    record {
      skips = record { knows = first.skips.knows; bits = rw (bit, first.skips.words) refl };
      first_is = ap (λ (w : ℕ). w / 2 ^ old.bit % 2) first.first_is ∙ sym (first_bit words old.bit within);
    }

-- dirty bits may be left from each index on
abbrev bits_from : Bool → List ℕ → ℕ → Option (List ℕ)
bits_from has words i = cond has (Some (drop i (bits_of words))) None

dirty_from : (has : Bool) (all words : List ℕ) (i : ℕ) → is_dirty_by (bits_from has words i) (get_or all i 0) ≡ cond has (is_bit_set words i) (is_dirty_word (get_or all i 0))
dirty_from true all words i = ap (λ (b : ℕ). nat_eq b 1) (first_left i (bits_of words) ∙ bits_at 64 (omega arith) words i)
dirty_from false all words i = refl

behind_from : (has : Bool) (words : List ℕ) (i : ℕ) → bits_behind 1 (bits_from has words i) ≡ bits_from has words (suc i)
behind_from true words i = ap Some (drop_next i (bits_of words))
behind_from false words i = refl

where_there : (has : Bool) (read words : List ℕ) → (has ≡ true → read ≡ words) → cond has (Some (bits_of read)) None ≡ bits_from has (cond has words []) 0
where_there true read words same = ap (λ (ws : List ℕ). Some (bits_of ws)) (same refl)
where_there false read words same = refl

-- a test that doesn't fail at its block
pub not_failed : (fails : Bool) (b : ℕ) (broken : Rule) → (fails && (nat_eq b b && same_rule broken broken)) ≡ false → same_rule broken broken ≡ true → fails ≡ false
not_failed true b broken none same = absurd (true≢false (sym (rw (eq-eqb b b refl, same) refl) ∙ none))
not_failed false b broken none same = refl

-- the metadata blocks are in the image
within_if_clean : (image : List (List ℕ)) → HasCleanSuper (cache_checked image) image → (cache_fields (block_at image 0)).meta_map.blocks ≤ length image
unfolding cache_checked
within_if_clean [] clean = absurd clean
within_if_clean (block ∷ blocks) clean = (super_sound (length (block ∷ blocks)) block clean).within

pub within : (image : List (List ℕ)) → faults Cache stages.Whole image ≡ [] → (cache_fields (block_at image 0)).meta_map.blocks ≤ length image
unfolding faults
within image none = within_if_clean image (clean_super_where_none (cache_checked image) image (stages.Walk ∷ stages.Order ∷ stages.Whole ∷ []) none)

-- the number of blocks fits its field
pub blocks_fit : (image : List (List ℕ)) → HasBytes image → (cache_fields (block_at image 0)).blocks < 2 ^ 32
blocks_fit image bytes = le-lt (block_at image 0) 240 4 (bytes 0)

module _ (image : List (List ℕ)) (none : faults Cache stages.Whole image ≡ []) (roots : HasCacheRoots (cache_graph (block_at image 0)) image (cache_fields (block_at image 0))) where
  abbrev fields : CacheFields
  fields = cache_fields (block_at image 0)

  -- a reached block is in the image
  inside : (b role : ℕ) → IsReached (cache_graph (block_at image 0)) image b role → b < length image
  unfolding cache_graph graph_of
  inside b role reached =
      let few = within image none in
      let below : b < fields.meta_map.blocks = reached.block in
      omega arith

  -- hints that are looked at have a root
  hint_root : has_hints fields ≡ true → fields.hint_root ≡ 0 → ⊥
  hint_root has = eqb-false fields.hint_root 0 (not-true (nat_eq fields.hint_root 0) (and_parts (nat_eq fields.hint_size 4) (not (nat_eq fields.hint_root 0)) has).1)

  pub roots_inside : RootsBelow (length image) fields
  roots_inside = record {
    mappings = inside fields.mapping_root 1 roots.mappings;
    hints = λ has. inside fields.hint_root 3 (roots.hints (hint_root has));
    dirty = λ has. inside fields.dirty_root 10 (roots.dirty_bits (eqb-true fields.version 2 has));
  }

  -- the mapping array has as many words as the cache has blocks
  mapping_length : length (array_words (cache_graph (block_at image 0)) image (mapping_array image)) ≡ fields.blocks
  unfolding faults cache_checked whole_bad cache_whole cache_arrays array_whole
  mapping_length =
      let graph = cache_graph (block_at image 0) in
      let root = fields.mapping_root in
      let at : (rule : Rule) → WholeTest → Bool = λ rule t. t.fails && (nat_eq t.block root && same_rule t.rule rule) in
      let none_of = λ (rule : Rule). whole_where_none (cache_checked image) image [] none root rule roots.mappings.block in
      let behind = λ (rule : Rule). none_last (at rule) (bitmap_tests graph image (λ role. nat_eq role 8)) _ (or_parts _ _ (none_of rule)).1 in
      let index = not_failed (is_array_index_bad graph image (mapping_array image)) root r.Index (or_parts _ _ (behind r.Index)).0 refl in
      let wrong = not_failed (not (is_array_index_bad graph image (mapping_array image)) && not (nat_eq (length (array_words graph image (mapping_array image))) fields.blocks)) root r.Length (or_parts _ _ (or_parts _ _ (behind r.Length)).1).0 refl in
      eqb-true (length (array_words graph image (mapping_array image))) fields.blocks (not-false (nat_eq (length (array_words graph image (mapping_array image))) fields.blocks) (rw index at wrong))

  -- what is read of an array whose root is reached are its words
  module _ (words_are : (b role size : ℕ) → IsReached (cache_graph (block_at image 0)) image b role → IsTreeRole (cache_graph (block_at image 0)) role 8
      → words_below size image b ≡ words_of size image (entries_below (cache_graph (block_at image 0)) image 8 role b))
      (trees : HasCacheTrees (cache_graph (block_at image 0))) (few : fields.blocks < 2 ^ 32) where
    abbrev graph : Graph
    graph = cache_graph (block_at image 0)

    abbrev words : List ℕ
    words = array_words graph image (mapping_array image)

    hints_are : hints_below image fields ≡ cache_hints graph image
    unfolding cache_hints
    hints_are = elim (cases_Bool (has_hints fields)) [
      | inl has ↦ rw has (words_are fields.hint_root 3 4 (roots.hints (hint_root has)) trees.hints.is_role)
      | inr not_there ↦ rw not_there refl
    ]

    dirty_are : dirty_below image fields ≡ bits_from (has_dirty_bits fields.version) (cache_dirty_bits graph image) 0
    unfolding cache_dirty_bits
    dirty_are =
        where_there (has_dirty_bits fields.version) (words_below 8 image fields.dirty_root) (array_words graph image (dirty_array image))
        (λ has. words_are fields.dirty_root 10 8 (roots.dirty_bits (eqb-true fields.version 2 has)) trees.dirty_bits.is_role)

    entries_are : (cache_meaning image).entries ≡ map entry_of (rows_below image fields)
    unfolding cache_meaning
    entries_are =
        let has = has_dirty_bits fields.version in
        let bits = cache_dirty_bits graph image in
        let same = words_are fields.mapping_root 1 8 roots.mappings trees.mappings.is_role in
        let length_is = mapping_length in
        rw (same, hints_are, dirty_are)
        (sym (entries_from words (cache_hints graph image) (bits_from has bits) (is_dirty_block fields.version words bits)
        (dirty_from has words bits) (behind_from has bits) words 0 refl (omega arith)))

    pub gives_cache : GivesCache image
    gives_cache = record { entries = entries_are; roots = roots_inside }
