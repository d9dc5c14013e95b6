-- The saved entries of any cache ascend, fit their fields, and no two of them have one origin.
use Rattle.std.proofs.Common.{◌≡◌, ℕ, ◌+◌, ◌%◌, ◌/◌, ◌^◌, ◌*◌, if◌then◌else◌, ◌<◌, Bool, true, false, not, ◌&&◌, ◌||◌, nat_eq, nat_lt, List, [], Option, Some, None, IfSome, refl, arith, inl, inr, zero, suc, ◌≤◌, cond, ◌∷◌, map, filter, ◌∙◌, ap}
use Rattle.std.specs.List.{filter_map, range_with_len, AllByRecursion}
use Rattle.std.specs.Option.{option_and_then, unwrap_or}
use Rattle.std.proofs.lemmas.Bool.{cases_Bool, not_from_false}
use Rattle.std.proofs.lemmas.List.{append-nil}
use Rattle.pd_kinds.proofs.FieldLemmas.{le-lt}
use Rattle.pd_kinds.specs.Array.{max_words, word_at, word_count}
use Rattle.pd_kinds.specs.CacheFormat.{CacheFields}
use Rattle.pd_kinds.specs.Graph.{is_outside, block_at}
use Rattle.pd_kinds.specs.Image.{HasBytes}
use Rattle.pd_kinds.specs.Trees.{value_of_key}
use Rattle.pd_kinds.specs.Whole.{is_valid_word, has_repeat}
use Rattle.pd_kinds.specs.Meaning.{CacheEntry}
use Rattle.pd_kinds.proofs.ListLemmas.{all_from}
use Rattle.pd_grammar.specs.Lawful.{AreEntries}
use Rattle.pd_laid.specs.Salvage.{salvaged_entries}
use Rattle.pd_laid.specs.SavedCache.{found_entries, is_array_damaged, saved_cache_from, saved_entry, saved_entry_of, saved_hint, saved_word, saved_word_at, saved_word_of, is_repeated}
use Rattle.pd_salvage_cache.specs.SavedCache.{DoAscend, IsGood}
use Rattle.pd_salvage_cache.proofs.KeptEntries.{kept_lawful, made_ascend, none_repeated}

-- what may be there holds where what it is made of does
after_each : {X Y : Type 0} (P : Y → Type 0) (f : X → Option Y) (o : Option X) → ((x : X) → IfSome (f x) P) → IfSome (option_and_then f o) P
after_each P f None each = tt
after_each P f (Some x) each = each x

where_taken : {X : Type 0} (P : X → Type 0) (lost there : Bool) (x : X) → P x → IfSome (if lost then None else if there then Some x else None) P
where_taken P true there x holds = tt
where_taken P false true x holds = holds
where_taken P false false x holds = tt

module _ (image : List (List ℕ)) (bytes : HasBytes image) (nr : ℕ) where
  -- a saved word fits its bytes
  word_at_fits : (size place i : ℕ) → IfSome (saved_word_at size nr image place i) (λ w. w < 256 ^ size)
  unfolding saved_word_at
  word_at_fits size place i =
      let block = block_at image place in
      where_taken (λ w. w < 256 ^ size) (is_outside nr place || is_array_damaged size place block) (nat_lt i (word_count size block)) (word_at size block i)
      (le-lt block (24 + size * i) size (bytes place))

  word_fits : (size root i : ℕ) → IfSome (saved_word size nr image root i) (λ w. w < 256 ^ size)
  unfolding saved_word_of
  word_fits size root i =
      after_each (λ w. w < 256 ^ size) (λ (place : ℕ). saved_word_at size nr image place (i % max_words size)) (value_of_key (salvaged_entries 8 nr image root) (i / max_words size))
      (λ place. word_at_fits size place (i % max_words size))

or_none : (end : ℕ) (o : Option ℕ) → 0 < end → IfSome o (λ w. w < end) → unwrap_or o 0 < end
or_none end None some fits = some
or_none end (Some w) some fits = fits

module _ (fields : CacheFields) (image : List (List ℕ)) (bytes : HasBytes image) where
  abbrev nr : ℕ
  nr = fields.meta_map.blocks

  hint_fits : (i : ℕ) → saved_hint fields image i < 2 ^ 32
  hint_fits i = elim (cases_Bool (nat_eq fields.hint_size 4 && not (nat_eq fields.hint_root 0))) [
    | inl has ↦ rw has (or_none (2 ^ 32) (saved_word 4 nr image fields.hint_root i) (omega arith) (word_fits image bytes nr 4 fields.hint_root i))
    | inr none ↦ rw none (omega arith)
  ]

  no_hints : (i : ℕ) → fields.hint_size ≡ 0 → saved_hint fields image i ≡ 0
  no_hints i none = rw none refl

  entry_good : (i : ℕ) (o : Option ℕ) → IfSome o (λ w. w < 2 ^ 64) → IfSome (saved_entry_of fields image i o) (IsGood fields.hint_size i)
  entry_good i None fits = tt
  entry_good i (Some word) fits = elim (cases_Bool (is_valid_word word)) [
    | inl valid ↦ rw valid (record { here = refl; origin_fits = omega (arith, fits); hint_fits = hint_fits i; no_hint = no_hints i })
    | inr other ↦ rw other tt
  ]

  found_ascend : DoAscend fields.blocks fields.hint_size 0 (found_entries fields image)
  unfolding found_entries
  found_ascend =
      rw (append-nil (filter_map (saved_entry fields image) (range_with_len 0 fields.blocks))) at
      (made_ascend fields.blocks fields.hint_size (saved_entry fields image) 0 fields.blocks []
      (λ i from below. entry_good i (saved_word 8 nr image fields.mapping_root i) (word_fits image bytes nr 8 fields.mapping_root i)) (omega arith) tt)

  pub entries_lawful : AreEntries fields.blocks fields.hint_size 0 [] (saved_cache_from fields image).entries
  unfolding saved_cache_from
  entries_lawful = kept_lawful fields.blocks fields.hint_size (found_entries fields image) found_ascend

-- The saved entries of a cache, from those of its blocks one by one.

-- what holds of each number below an end holds of all numbers in a row
pub all_below : (P : ℕ → Type 0) (end a n : ℕ) → a + n ≤ end → ((i : ℕ) → i < end → P i) → AllByRecursion P (range_with_len a n)
all_below P end a zero few each = tt
all_below P end a (suc n) few each = (each a (omega arith), all_below P end (a + 1) n (omega arith) each)

-- what is made of the elements that pass
pub made_of : {X Y : Type 0} (h : X → Option Y) (p : X → Bool) (f : X → Y) (xs : List X)
    → AllByRecursion (λ x. h x ≡ cond (p x) (Some (f x)) None) xs → filter_map h xs ≡ map f (filter p xs)
made_of h p f [] all = refl
made_of h p f (x ∷ xs) all = elim (cases_Bool (p x)) [
  | inl passes ↦ rw (all.0, passes) (ap (λ ys. f x ∷ ys) (made_of h p f xs all.1))
  | inr fails ↦ rw (all.0, fails) (made_of h p f xs all.1)
]

-- where no origin comes twice, no entry repeats an earlier one's
pub single_entries : (origin : ℕ → ℕ) (f : ℕ → CacheEntry) → ((i : ℕ) → (f i).origin ≡ origin i) → (js : List ℕ) → has_repeat (map origin js) ≡ false
    → AllByRecursion (λ (e : CacheEntry). not (is_repeated (map f js) e) ≡ true) (map f js)
single_entries origin f origins js single =
    all_from (λ (e : CacheEntry). is_repeated (map f js) e ≡ false) (λ (e : CacheEntry). not (is_repeated (map f js) e) ≡ true) (λ e none. not_from_false _ none) (map f js)
    (none_repeated (map f js) (ap has_repeat (same_origins origin f origins js) ∙ single))
  where
    same_origins : (origin : ℕ → ℕ) (f : ℕ → CacheEntry) → ((i : ℕ) → (f i).origin ≡ origin i) → (js : List ℕ) → map (λ (e : CacheEntry). e.origin) (map f js) ≡ map origin js
    same_origins origin f origins [] = refl
    same_origins origin f origins (j ∷ js) = rw (origins j, same_origins origin f origins js) refl
