-- The words of a cache's arrays fit their fields, and say what was laid.
use Rattle.std.proofs.Common.{◌≡◌, inl, inr, ℕ, zero, suc, ◌+◌, ◌-◌, ◌*◌, ◌/◌, ◌^◌, ◌<◌, ◌≤◌, Bool, true, false, ◌&&◌, nat_eq, eq-eqb, cond, sum, List, [], ◌∷◌, map, Option, refl, ◌∙◌, arith}
use Rattle.std.specs.declared.option.Option.TheVariants.{None, Some}
use Rattle.std.specs.Int.{bit_at}
use Rattle.std.specs.List.{AllByRecursion, find, range_with_len}
use Rattle.std.proofs.lemmas.Bool.{cases_eq, cases_lt, ne_eqb}
use Rattle.std.proofs.lemmas.List.FromFn.{sum_by-map-range_with_len_more}
use Rattle.std.proofs.lemmas.Nat.Bits.{bit_at_cat_high, bit_at_cat_low}
use Rattle.pd_kinds.specs.Meaning.{CacheEntry, CacheMeaning}
use Rattle.pd_kinds.proofs.ListLemmas.{all_map}
use Rattle.pd_grammar.specs.Lawful.{AreEntries, IsLawfulCache}
use Rattle.pd_laid.specs.LaidCache.{dirty_word, dirty_words, entry_of, hint_word, hint_words, is_dirty, mapping_word, mapping_words}

-- a number of so many bits, each of them set where the test says so
pub record HasBits (test : ℕ → Bool) (k word : ℕ) : Type 0 where
  pub below : word < 2 ^ k
  pub bits_are : (i : ℕ) → i < k → nat_eq (bit_at word i) 1 ≡ test i

-- the sum of the powers where a test holds has these bits
sum_has_bits : (test : ℕ → Bool) (k : ℕ) → HasBits test k (sum (map (λ i. cond (test i) (2 ^ i) 0) (range_with_len 0 k)))
sum_has_bits test zero = record { below = omega arith; bits_are = λ i h. absurd (omega arith) }
sum_has_bits test (suc k) =
    let power = λ (i : ℕ). cond (test i) (2 ^ i) 0 in
    let front = sum (map power (range_with_len 0 k)) in
    let lower = sum_has_bits test k in
    let bit : ℕ = cond (test k) 1 0 in
    let number : k + 1 ≡ suc k = omega arith in
    let split : sum (map power (range_with_len 0 (suc k))) ≡ front + power k = rw number at (sum_by-map-range_with_len_more (λ n. n) power 0 k k (omega arith)) in
    let whole : sum (map power (range_with_len 0 (suc k))) ≡ bit * 2 ^ k + front = split ∙ more (test k) front in
    rw whole (record {
      below = top (test k) front lower.below;
      bits_are = λ i h. elim (cases_lt i k) [
        | inl here ↦ rw (bit_at_cat_low bit k front i here) (lower.bits_are i here)
        | inr last ↦
            let same : i ≡ k = omega arith in
            rw (same, bit_at_cat_high bit k front k lower.below (omega arith)) (own (test k))
      ];
    })
  where
    more : (here : Bool) (front : ℕ) → front + cond here (2 ^ k) 0 ≡ cond here 1 0 * 2 ^ k + front
    more true front = omega arith
    more false front = omega arith

    top : (here : Bool) (front : ℕ) → front < 2 ^ k → cond here 1 0 * 2 ^ k + front < 2 ^ suc k
    top true front small = omega arith
    top false front small = omega arith

    own : (here : Bool) → nat_eq (bit_at (cond here 1 0) (k - k)) 1 ≡ here
    own true = let none : k - k ≡ 0 = omega arith in rw none refl
    own false = let none : k - k ≡ 0 = omega arith in rw none refl

-- what is known of a lawful cache's entry
pub record EntryFits (hint_size : ℕ) (e : CacheEntry) : Type 0 where
  pub origin_fits : e.origin < 2 ^ 48
  pub hint_fits : e.hint < 2 ^ 32
  pub no_hint : hint_size ≡ 0 → e.hint ≡ 0

entries_fit : (blocks hint_size least : ℕ) (earlier : List ℕ) (es : List CacheEntry) → AreEntries blocks hint_size least earlier es → AllByRecursion (EntryFits hint_size) es
entries_fit blocks hint_size least earlier [] are = tt
entries_fit blocks hint_size least earlier (e ∷ es) are = (
  record { origin_fits = are.0.origin_fits; hint_fits = are.0.hint_fits; no_hint = are.0.no_hint },
  entries_fit blocks hint_size (e.block + 1) (e.origin ∷ earlier) es are.1,
)

module _ (m : CacheMeaning) (lawful : IsLawfulCache m) where
  -- what holds of no entry, and of each that fits, holds of the one that a cache block has
  pub by_entry : (P : Option CacheEntry → Type 0) (i : ℕ) → P None → ((e : CacheEntry) → EntryFits m.hint_size e → e.block ≡ i → P (Some e)) → P (entry_of m i)
  unfolding entry_of
  by_entry P i none some = found m.entries (entries_fit m.blocks m.hint_size 0 [] m.entries lawful.entries)
    where
      found : (es : List CacheEntry) → AllByRecursion (EntryFits m.hint_size) es → P (find (λ (e : CacheEntry). nat_eq e.block i) es)
      found [] fit = none
      found (e ∷ es) fit = elim (cases_eq e.block i) [
        | inl same ↦ rw (eq-eqb e.block i same) (some e fit.0 same)
        | inr other ↦ rw (ne_eqb e.block i other) (found es fit.1)
      ]

  -- the words of each array fit their fields
  pub mapping_words_fit : (version : ℕ) → AllByRecursion (λ word. word < 256 ^ 8) (mapping_words m version)
  unfolding mapping_words
  mapping_words_fit version =
      all_map (λ i. mapping_word version (entry_of m i)) (λ word. word < 256 ^ 8)
      (λ i. by_entry (λ entry. mapping_word version entry < 256 ^ 8) i (omega arith)
      (λ e fits same. let origin = fits.origin_fits in let low = few (e.dirty && nat_eq version 1) in omega arith)) (range_with_len 0 m.blocks)
    where
      few : (dirty : Bool) → cond dirty 3 1 ≤ 3
      few true = omega arith
      few false = omega arith

  pub hint_words_fit : AllByRecursion (λ word. word < 256 ^ 4) (hint_words m)
  unfolding hint_words
  hint_words_fit =
      all_map (λ i. hint_word (entry_of m i)) (λ word. word < 256 ^ 4)
      (λ i. by_entry (λ entry. hint_word entry < 256 ^ 4) i (omega arith) (λ e fits same. let hint = fits.hint_fits in omega arith)) (range_with_len 0 m.blocks)

  pub dirty_bits : (j : ℕ) → HasBits (λ i. is_dirty (entry_of m (64 * j + i))) 64 (dirty_word m j)
  unfolding dirty_word
  dirty_bits j = sum_has_bits (λ i. is_dirty (entry_of m (64 * j + i))) 64

  pub dirty_words_fit : AllByRecursion (λ word. word < 256 ^ 8) (dirty_words m)
  unfolding dirty_words
  dirty_words_fit =
      all_map (dirty_word m) (λ word. word < 256 ^ 8) (λ j. let small = (dirty_bits j).below in omega arith) (range_with_len 0 ((m.blocks + 63) / 64))
