-- How many words of a cache's mapping array are lost.
use Rattle.std.proofs.Common.{◌≡◌, ℕ, zero, suc, ◌+◌, ◌-◌, ◌*◌, ◌%◌, ◌≤◌, ◌<◌, Bool, true, false, cond, List, min, refl, ap, ◌∙◌, subst, arith}
use Rattle.std.specs.Prelude.{count_by, is_none}
use Rattle.std.specs.List.{range_with_len}
use Rattle.std.proofs.lemmas.Bool.{le-ltb, lt-ltb}
use Rattle.std.proofs.lemmas.List.Sums.{sum_by-append, sum_by-cons}
use Rattle.pd_kinds.specs.CacheFormat.{CacheFields}
use Rattle.pd_kinds.proofs.NumberLemmas.{range_split}
use Rattle.pd_laid.specs.CacheRoots.{mapping_word, unknown_words}
use Rattle.pd_salvage_cache.specs.declared.arrays.Arrays.{Arrays}
use Rattle.pd_salvage_cache.specs.Arrays.{HoldsKey, IsOfCache, KnowsCache, is_lost}
use Rattle.pd_salvage_cache.proofs.GatherLemmas.{end_of}
use Rattle.pd_salvage_cache.proofs.HeldLemmas.{word_saved}

-- Numbers in a row, and how many of them pass a test.

count_first : (p : ℕ → Bool) (a n : ℕ) → count_by p (range_with_len a (suc n)) ≡ cond (p a) 1 0 + count_by p (range_with_len (a + 1) n)
count_first p a n = sum_by-cons (λ x. cond (p x) 1 0) a (range_with_len (a + 1) n)

count_on : (p : ℕ → Bool) (a m n : ℕ) → count_by p (range_with_len a (m + n)) ≡ count_by p (range_with_len a m) + count_by p (range_with_len (a + m) n)
count_on p a m n = ap (count_by p) (range_split a m n) ∙ sum_by-append (λ x. cond (p x) 1 0) (range_with_len a m) (range_with_len (a + m) n)

-- as many as pass another one
same_counted : (p q : ℕ → Bool) (a n : ℕ) → ((i : ℕ) → a ≤ i → i < a + n → p i ≡ q i) → count_by p (range_with_len a n) ≡ count_by q (range_with_len a n)
same_counted p q a zero same = refl
same_counted p q a (suc n) same =
    let first : cond {A = ℕ} (p a) 1 0 ≡ cond {A = ℕ} (q a) 1 0 = ap (λ (b : Bool). cond {A = ℕ} b 1 0) (same a (omega arith) (omega arith)) in
    let rest = same_counted p q (a + 1) n (λ i from below. same i (omega arith) (omega arith)) in
    omega (arith, first, rest, count_first p a n, count_first q a n)

-- all of them, and none
all_counted : (p : ℕ → Bool) (a n : ℕ) → ((i : ℕ) → a ≤ i → i < a + n → p i ≡ true) → count_by p (range_with_len a n) ≡ n
all_counted p a zero all = refl
all_counted p a (suc n) all =
    let first : cond {A = ℕ} (p a) 1 0 ≡ 1 = rw (all a (omega arith) (omega arith)) refl in
    let rest = all_counted p (a + 1) n (λ i from below. all i (omega arith) (omega arith)) in
    omega (arith, first, rest, count_first p a n)

pub none_counted : (p : ℕ → Bool) (a n : ℕ) → ((i : ℕ) → a ≤ i → i < a + n → p i ≡ false) → count_by p (range_with_len a n) ≡ 0
none_counted p a zero none = refl
none_counted p a (suc n) none =
    let first : cond {A = ℕ} (p a) 1 0 ≡ 0 = rw (none a (omega arith) (omega arith)) refl in
    let rest = none_counted p (a + 1) n (λ i from below. none i (omega arith) (omega arith)) in
    omega (arith, first, rest, count_first p a n)

-- of a key that is held the words are lost that its block doesn't have
pub lost_in_key : (arrays : Arrays) (key number known : ℕ) → number ≤ 509 → known ≡ min arrays.words.count number
    → count_by (is_lost arrays) (range_with_len (509 * key) number) ≡ number - known
lost_in_key arrays key number known few is =
    let whole : known + (number - known) ≡ number = omega (arith, is) in
    let here = none_counted (is_lost arrays) (509 * key) known (λ i from below. rw (lt-ltb (i % 509) arrays.words.count (omega (arith, is))) refl) in
    let past = all_counted (is_lost arrays) (509 * key + known) (number - known) (λ i from below. rw (le-ltb (i % 509) arrays.words.count (omega (arith, is))) refl) in
    let both = count_on (is_lost arrays) (509 * key) known (number - known) in
    subst (λ (n : ℕ). count_by (is_lost arrays) (range_with_len (509 * key) n) ≡ number - known) whole (omega (arith, both, here, past))

-- whether the mapping word of a cache block is lost
abbrev is_unknown : CacheFields → List (List ℕ) → ℕ → Bool
is_unknown fields image i = is_none (mapping_word fields image i)

-- those of the cache blocks before a key were counted
abbrev pub AreLostBefore : CacheFields → ℕ → ℕ → List (List ℕ) → Type 0
AreLostBefore fields key unknown image = unknown ≡ count_by (is_unknown fields image) (range_with_len 0 (end_of fields key))

-- and those of one key more
pub lost_more : (fields : CacheFields) (arrays : Arrays) (key unknown lost : ℕ) (image : List (List ℕ)) → 509 * key < fields.blocks
    → KnowsCache image fields arrays → IsOfCache fields arrays → HoldsKey key arrays
    → lost ≡ count_by (is_lost arrays) (range_with_len (509 * key) (min 509 (fields.blocks - 509 * key)))
    → AreLostBefore fields key unknown image → AreLostBefore fields (key + 1) (unknown + lost) image
lost_more fields arrays key unknown lost image some knows of holds is all =
    let number = min 509 (fields.blocks - 509 * key) in
    let here : end_of fields key ≡ 509 * key = omega arith in
    let next : end_of fields (key + 1) ≡ 509 * key + number = omega arith in
    let zero_on : 0 + 509 * key ≡ 509 * key = omega arith in
    let before = rw here at all in
    let both = rw zero_on at (count_on (is_unknown fields image) 0 (509 * key) number) in
    let same = same_counted (is_lost arrays) (is_unknown fields image) (509 * key) number
    (λ i from below. ap (λ o. is_none o) (word_saved image fields arrays key i knows of holds (omega (arith, from, below)))) in
    rw next (omega (arith, is, before, both, same))

-- in the end they are those of all cache blocks
pub lost_before : (fields : CacheFields) (key unknown : ℕ) (image : List (List ℕ)) → fields.blocks ≤ 509 * key → AreLostBefore fields key unknown image → unknown ≡ unknown_words fields image
unfolding unknown_words
lost_before fields key unknown image enough all =
    let end : end_of fields key ≡ fields.blocks = omega arith in
    rw end at all
