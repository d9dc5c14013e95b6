-- The rows of one key more are found.
use Rattle.std.proofs.Common.{◌≡◌, ℕ, zero, suc, ◌+◌, ◌-◌, ◌*◌, ◌%◌, ◌≤◌, ◌<◌, Bool, true, false, cond, List, [], ◌++◌, map, min, Option, Some, None, IfSome, is_some, refl, sym, ap, ◌∙◌, subst, arith, inl, inr, append_assoc, ◌∷◌}
use Rattle.std.specs.List.{AllByRecursion, cons_option, filter_map, range_with_len}
use Rattle.std.specs.Option.{option_map}
use Rattle.std.proofs.lemmas.Bool.{cases_lt, false≢true, le-ltb}
use Rattle.std.proofs.lemmas.List.{map-append, append-nil}
use Rattle.std.proofs.lemmas.List.Elements.{filter_map-append}
use Rattle.pd_kinds.specs.CacheFormat.{CacheFields}
use Rattle.pd_kinds.specs.Meaning.{CacheEntry}
use Rattle.pd_kinds.specs.Whole.{is_valid_word}
use Rattle.pd_kinds.proofs.NumberLemmas.{range_split}
use Rattle.pd_kinds.proofs.ListLemmas.{all_append}
use Rattle.pd_laid.specs.SavedCache.{found_entries, saved_entry}
use Rattle.pd_salvage_cache.specs.declared.array.SavedArray.{SavedArray}
use Rattle.pd_salvage_cache.specs.declared.arrays.Arrays.{Arrays}
use Rattle.pd_salvage_cache.specs.declared.saved.Row.{Row}
use Rattle.pd_salvage_cache.specs.Arrays.{held_word, HoldsKey, IsOfCache, KnowsCache, has_hints, hint_held, row_held, row_of, row_with}
use Rattle.pd_salvage_cache.specs.SavedCache.{DoAscend, FitsRow, IsGood, entry}
use Rattle.pd_salvage_cache.proofs.HeldLemmas.{entries_made, row_saved, same_in_row, none_in_row}
use Rattle.pd_salvage_cache.proofs.KeptEntries.{made_ascend}

-- where the cache has no hints, none is held
hint_none : (fields : CacheFields) (hints : Option SavedArray) (block : ℕ) → is_some hints ≡ has_hints fields → fields.hint_size ≡ 0 → hint_held hints block ≡ 0
hint_none fields None block has none = refl
hint_none fields (Some a) block has none = absurd (false≢true (sym (rw none at has)))

-- a row that fits is good
good_row : (fields : CacheFields) (arrays : Arrays) (i : ℕ) (o : Option ℕ) → IsOfCache fields arrays → IfSome (row_of arrays i o) FitsRow → IfSome (option_map entry (row_of arrays i o)) (IsGood fields.hint_size i)
good_row fields arrays i None of fits = tt
good_row fields arrays i (Some word) of fits = by_valid (is_valid_word word) fits
  where
    by_valid : (valid : Bool) → IfSome (cond valid (Some (row_with arrays i word)) None) FitsRow
        → IfSome (option_map entry (cond valid (Some (row_with arrays i word)) None)) (IsGood fields.hint_size i)
    by_valid true fits = record { here = refl; origin_fits = fits.origin; hint_fits = fits.hint; no_hint = hint_none fields arrays.hints i of.hints }
    by_valid false fits = tt

-- what holds of all that is made holds of each
first_of : {Y : Type 0} (P : Y → Type 0) (o : Option Y) (ys : List Y) → AllByRecursion P (cons_option o ys) → IfSome o P × AllByRecursion P ys
first_of {Y} P None ys all = (tt, all)
first_of {Y} P (Some y) ys all = (all.0, all.1)

each_made : {Y : Type 0} (P : Y → Type 0) (f : ℕ → Option Y) (a n : ℕ) → AllByRecursion P (filter_map f (range_with_len a n)) → (k : ℕ) → a ≤ k → k < a + n → IfSome (f k) P
each_made {Y} P f a zero all k from below = absurd (omega arith)
each_made {Y} P f a (suc n) all k from below =
    let parts = first_of P (f a) (filter_map f (range_with_len (a + 1) n)) all in
    elim (cases_lt a k) [
      | inl later ↦ each_made P f (a + 1) n parts.1 k (omega arith) (omega arith)
      | inr here ↦ let same : a ≡ k = omega arith in subst (λ (b : ℕ). IfSome (f b) P) same parts.0
    ]

-- where a key ends
abbrev pub end_of : CacheFields → ℕ → ℕ
end_of fields key = min (509 * key) fields.blocks

-- the rows of the cache blocks before a key: others may follow
abbrev pub AreBefore : CacheFields → ℕ → List Row → Type 0
AreBefore fields key rows =
    (rest : List CacheEntry) → DoAscend fields.blocks fields.hint_size (end_of fields key) rest → DoAscend fields.blocks fields.hint_size 0 (map entry rows ++ rest)

-- they are all of them
abbrev pub AreAllBefore : CacheFields → ℕ → List Row → List (List ℕ) → Type 0
AreAllBefore fields key rows image = map entry rows ≡ filter_map (saved_entry fields image) (range_with_len 0 (end_of fields key))

module _ (fields : CacheFields) (arrays : Arrays) (key : ℕ) (old new : List Row) (some : 509 * key < fields.blocks) (of : IsOfCache fields arrays) where
  abbrev number : ℕ
  number = min 509 (fields.blocks - 509 * key)

  abbrev added : List Row
  added = filter_map (row_held arrays) (range_with_len (509 * key) number)

  abbrev made : ℕ → Option CacheEntry
  made i = option_map entry (row_held arrays i)

  module _ (is : new ≡ old ++ added) where
    entries_are : map entry new ≡ map entry old ++ filter_map made (range_with_len (509 * key) number)
    entries_are =
        ap (map entry) is ∙ (map-append entry old added ∙ ap (λ (es : List CacheEntry). map entry old ++ es) (entries_made (row_held arrays) (range_with_len (509 * key) number)))

    pub before_more : AreBefore fields key old → AllByRecursion FitsRow added → AreBefore fields (key + 1) new
    before_more before fit rest later =
        let here : end_of fields key ≡ 509 * key = omega arith in
        let next : end_of fields (key + 1) ≡ 509 * key + number = omega arith in
        rw (entries_are, append_assoc (map entry old) (filter_map made (range_with_len (509 * key) number)) rest)
        (before (filter_map made (range_with_len (509 * key) number) ++ rest)
        (rw here
        (made_ascend fields.blocks fields.hint_size made (509 * key) number rest
        (λ k from below. good_row fields arrays k (held_word arrays.words (k % 509)) of (each_made FitsRow (row_held arrays) (509 * key) number fit k from below))
        (omega arith) (rw next at later))))

    pub all_more : (image : List (List ℕ)) → AreAllBefore fields key old image → KnowsCache image fields arrays → HoldsKey key arrays → AreAllBefore fields (key + 1) new image
    all_more image all knows holds =
        let here : end_of fields key ≡ 509 * key = omega arith in
        let next : end_of fields (key + 1) ≡ 509 * key + number = omega arith in
        let zero_on : 0 + 509 * key ≡ 509 * key = omega arith in
        entries_are
        ∙ (ap (λ (es : List CacheEntry). es ++ filter_map made (range_with_len (509 * key) number)) (rw here at all)
        ∙ (ap (λ (es : List CacheEntry). filter_map (saved_entry fields image) (range_with_len 0 (509 * key)) ++ es)
        (same_in_row made (saved_entry fields image) (509 * key) number (λ i from below. row_saved image fields arrays key i knows of holds (omega (arith, from, below))))
        ∙ sym (rw next
        (ap (filter_map (saved_entry fields image)) (range_split 0 (509 * key) number ∙ ap (λ (a : ℕ). range_with_len 0 (509 * key) ++ range_with_len a number) zero_on)
        ∙ filter_map-append (saved_entry fields image) (range_with_len 0 (509 * key)) (range_with_len (509 * key) number)))))

-- in the end they are those of all blocks
pub all_before : (fields : CacheFields) (key : ℕ) (rows : List Row) (image : List (List ℕ)) → fields.blocks ≤ 509 * key → AreAllBefore fields key rows image → map entry rows ≡ found_entries fields image
unfolding found_entries
all_before fields key rows image enough all =
    let end : end_of fields key ≡ fields.blocks = omega arith in
    rw end at all

pub ascend_before : (fields : CacheFields) (key : ℕ) (rows : List Row) → AreBefore fields key rows → DoAscend fields.blocks fields.hint_size 0 (map entry rows)
ascend_before fields key rows before = rw (append-nil (map entry rows)) at (before [] tt)

-- The rows of one key, block after block.

module _ (f : ℕ → Option Row) (first i : ℕ) where
  made_more : filter_map f (range_with_len first (i + 1)) ≡ filter_map f (range_with_len first i) ++ cons_option (f (first + i)) []
  made_more = ap (filter_map f) (range_split first i 1) ∙ filter_map-append f (range_with_len first i) ((first + i) ∷ [])

  -- the rows with that of one block more
  pub rows_more : (start old new : List Row) → old ≡ start ++ filter_map f (range_with_len first i) → new ≡ old ++ cons_option (f (first + i)) []
      → new ≡ start ++ filter_map f (range_with_len first (i + 1))
  rows_more start old new before is =
      is
      ∙ (ap (λ (rows : List Row). rows ++ cons_option (f (first + i)) []) before
      ∙ (append_assoc start (filter_map f (range_with_len first i)) (cons_option (f (first + i)) [])
      ∙ ap (λ (rows : List Row). start ++ rows) (sym made_more)))

  pub fit_more : AllByRecursion FitsRow (filter_map f (range_with_len first i)) → AllByRecursion FitsRow (cons_option (f (first + i)) [])
      → AllByRecursion FitsRow (filter_map f (range_with_len first (i + 1)))
  fit_more before fits =
      subst (AllByRecursion FitsRow) (sym made_more) (all_append FitsRow (filter_map f (range_with_len first i)) (cons_option (f (first + i)) []) before fits)

module _ (arrays : Arrays) (key : ℕ) where
  -- the row of a block, by its word
  held_at : (i : ℕ) (o : Option ℕ) → i < 509 → held_word arrays.words i ≡ o → row_held arrays (509 * key + i) ≡ row_of arrays (509 * key + i) o
  held_at i o small is =
      let place : (509 * key + i) % 509 ≡ i = omega arith in
      ap (λ (j : ℕ). row_of arrays (509 * key + i) (held_word arrays.words j)) place ∙ ap (row_of arrays (509 * key + i)) is

  pub held_some : (i word : ℕ) → i < 509 → held_word arrays.words i ≡ Some word → row_held arrays (509 * key + i) ≡ row_of arrays (509 * key + i) (Some word)
  held_some i word small is = held_at i (Some word) small is

  pub held_none : (i : ℕ) → i < 509 → held_word arrays.words i ≡ None → row_held arrays (509 * key + i) ≡ None
  held_none i small is = held_at i None small is

  -- past the words of the block that is held there are none
  pub made_whole : (n number : ℕ) → number ≤ n → n ≤ 509 → ((i : ℕ) → number ≤ i → i < n → arrays.words.count ≤ i)
      → filter_map (row_held arrays) (range_with_len (509 * key) number) ≡ filter_map (row_held arrays) (range_with_len (509 * key) n)
  made_whole n number within few past =
      let whole : number + (n - number) ≡ n = omega arith in
      sym (ap (λ (m : ℕ). filter_map (row_held arrays) (range_with_len (509 * key) m)) (sym whole)
      ∙ (ap (filter_map (row_held arrays)) (range_split (509 * key) number (n - number))
      ∙ (filter_map-append (row_held arrays) (range_with_len (509 * key) number) (range_with_len (509 * key + number) (n - number))
      ∙ (ap (λ (rows : List Row). filter_map (row_held arrays) (range_with_len (509 * key) number) ++ rows)
      (none_in_row (row_held arrays) (509 * key + number) (n - number) (λ k from below. none_at k from below))
      ∙ append-nil (filter_map (row_held arrays) (range_with_len (509 * key) number))))))
    where
      none_at : (k : ℕ) → 509 * key + number ≤ k → k < 509 * key + number + (n - number) → row_held arrays k ≡ None
      none_at k from below =
          let i = k - 509 * key in
          let same : 509 * key + i ≡ k = omega arith in
          subst (λ (j : ℕ). row_held arrays j ≡ None) same (held_none i (omega arith) (rw (le-ltb i arrays.words.count (past i (omega arith) (omega arith))) refl))
