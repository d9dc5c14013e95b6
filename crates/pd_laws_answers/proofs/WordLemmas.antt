-- What bytes say of the words of an array, and of a field of bytes.
use Rattle.std.proofs.Common.{◌≡◌, ℕ, zero, suc, ◌+◌, ◌-◌, ◌*◌, ◌^◌, ◌<◌, ◌≤◌, List, [], ◌∷◌, length, get_or, drop, map, arith, inl, inr, Bool, false, nat_eq, filter, sym}
use Rattle.std.specs.List.{All, AllByRecursion, range_with_len, list_any}
use Rattle.std.proofs.lemmas.List.{get_or-drop, get_or-take, get_or_default, length-drop, length-take-le}
use Rattle.std.proofs.lemmas.Bool.{cases_Bool, eqb-false, ne_eqb, or_parts}
use Rattle.pd_kinds.specs.Array.{word_at, word_count}
use Rattle.pd_kinds.specs.Field.{bytes_at}
use Rattle.pd_kinds.specs.Graph.{block_at}
use Rattle.pd_kinds.specs.Node.{Entry}
use Rattle.pd_kinds.specs.Trees.{block_words, words_of}
use Rattle.pd_kinds.proofs.FieldLemmas.{le-lt}
use Rattle.pd_kinds.proofs.ListLemmas.{all_flat_map, all_map, all_of}
use Rattle.pd_kinds.specs.Image.{HasBytes}
use Rattle.pd_kinds.specs.Meaning.{cache_entry}
use Rattle.pd_kinds.specs.Whole.{has_repeat}
use Rattle.pd_grammar.specs.Lawful.{AreEntries}
use Rattle.pd_value.specs.declared.thin.Root.{Root}
use Rattle.pd_tree.specs.Cursor.{words_from, words_of_items}
use Rattle.pd_laws_changed.proofs.SoundCache.{origin_at}

-- each word of an array fits its size
abbrev pub DoWordsFit : ℕ → List ℕ → Type 0
DoWordsFit size words = AllByRecursion (λ w. w < 256 ^ size) words

module _ (size : ℕ) (image : List (List ℕ)) (bytes : HasBytes image) where
  words_at : (b : ℕ) (places : List ℕ) → DoWordsFit size (map (word_at size (block_at image b)) places)
  words_at b places = all_map (word_at size (block_at image b)) (λ w. w < 256 ^ size) (λ i. le-lt (block_at image b) (24 + size * i) size (bytes b)) places

  pub words_fit : (entries : List Entry) → DoWordsFit size (words_of size image entries)
  unfolding words_of block_words
  words_fit entries =
      all_flat_map (λ (e : Entry). block_words size (block_at image e.value)) (λ w. w < 256 ^ size) entries
      (all_of (λ (e : Entry). DoWordsFit size (block_words size (block_at image e.value)))
      (λ e. words_at e.value (range_with_len 0 (word_count size (block_at image e.value)))) entries)

  -- the same by what a cursor gives
  pub given_words_fit : (items : List (ℕ × Root)) → DoWordsFit size (words_of_items size image items)
  unfolding words_of_items words_from
  given_words_fit items =
      all_flat_map (λ (item : ℕ × Root). words_from size (block_at image item.1.0) 0) (λ w. w < 256 ^ size) items
      (all_of (λ (item : ℕ × Root). DoWordsFit size (words_from size (block_at image item.1.0) 0))
      (λ item. words_at item.1.0 (range_with_len 0 (word_count size (block_at image item.1.0) - 0))) items)

-- a word at any index, which past the end is 0
pub word_fits : (limit : ℕ) (words : List ℕ) → 0 < limit → AllByRecursion (λ w. w < limit) words → (i : ℕ) → get_or words i 0 < limit
word_fits limit [] some all i = some
word_fits limit (w ∷ words) some all zero = all.0
word_fits limit (w ∷ words) some all (suc i) = word_fits limit words some all.1 i

-- a field of bytes
pub field_fits : (block : List ℕ) (o n : ℕ) → ((i : ℕ) → get_or block i 0 < 256) → o + n ≤ length block
    → (length (bytes_at block o n) ≡ n) × All (λ b. b < 256) (bytes_at block o n)
field_fits block o n bytes whole =
    let rest = length-drop o block in
    let number = length-take-le n (drop o block) (omega (arith, rest)) in (
      number,
      λ k d within.
          let small : k < n = omega (arith, number, within) in
          let from : o + k < length block = omega arith in
          rw (get_or-take n (drop o block) k d small, get_or-drop o block k d, get_or_default block (o + k) d 0 from) (bytes (o + k)),
    )

-- the first block of an image that has one is whole
pub first_whole : (image : List (List ℕ)) (n : ℕ) → n < length image → All (λ block. length block ≡ 4096) image → length (block_at image 0) ≡ 4096
first_whole [] n within whole = absurd (omega arith)
first_whole (block ∷ blocks) n within whole = whole 0 [] (omega arith)

-- Entries of a cache at blocks that ascend, of which no two have one origin.

-- numbers that ascend, from the least one on and below an end
abbrev pub DoAscend : ℕ → ℕ → List ℕ → Type 0
DoAscend end least [] = Unit {0}
DoAscend end least (i ∷ is) = (least ≤ i) × ((i < end) × DoAscend end (i + 1) is)

pub filter_ascends : (p : ℕ → Bool) (end least a n : ℕ) → least ≤ a → a + n ≤ end → DoAscend end least (filter p (range_with_len a n))
filter_ascends p end least a zero from to = tt
filter_ascends p end least a (suc n) from to = elim (cases_Bool (p a)) [
  | inl is ↦ rw is (from, (omega arith, filter_ascends p end (a + 1) (a + 1) n (omega arith) (omega arith)))
  | inr other ↦ rw other (filter_ascends p end least (a + 1) n (omega arith) (omega arith))
]

-- a number isn't among these origins
abbrev pub IsNew : List ℕ → ℕ → Type 0
IsNew earlier origin = list_any (λ o. nat_eq o origin) earlier ≡ false

module _ (blocks hint_size version : ℕ) (words hints bits : List ℕ)
    (origin_fits : (i : ℕ) → origin_at words i < 2 ^ 48) (hint_fits : (i : ℕ) → get_or hints i 0 < 2 ^ 32) (no_hint : hint_size ≡ 0 → (i : ℕ) → get_or hints i 0 ≡ 0) where
  -- an origin that doesn't come again stays new
  still_new : (i : ℕ) (earlier is : List ℕ) → list_any (λ o. nat_eq o (origin_at words i)) (map (origin_at words) is) ≡ false
      → AllByRecursion (λ j. IsNew earlier (origin_at words j)) is → AllByRecursion (λ j. IsNew (origin_at words i ∷ earlier) (origin_at words j)) is
  still_new i earlier [] none new = tt
  still_new i earlier (j ∷ js) none new =
      let parts = or_parts (nat_eq (origin_at words j) (origin_at words i)) (list_any (λ o. nat_eq o (origin_at words i)) (map (origin_at words) js)) none in
      let apart : nat_eq (origin_at words i) (origin_at words j) ≡ false = ne_eqb (origin_at words i) (origin_at words j) (λ same. eqb-false (origin_at words j) (origin_at words i) parts.0 (sym same)) in
      (rw apart new.0, still_new i earlier js parts.1 new.1)

  pub entries_lawful : (is : List ℕ) (least : ℕ) (earlier : List ℕ) → DoAscend blocks least is → has_repeat (map (origin_at words) is) ≡ false
      → AllByRecursion (λ i. IsNew earlier (origin_at words i)) is → AreEntries blocks hint_size least earlier (map (cache_entry version words hints bits) is)
  unfolding has_repeat
  entries_lawful [] least earlier ascend single new = tt
  entries_lawful (i ∷ is) least earlier ascend single new =
      let parts = or_parts (list_any (λ o. nat_eq o (origin_at words i)) (map (origin_at words) is)) (has_repeat (map (origin_at words) is)) single in (
        record {
          above = ascend.0;
          within = ascend.1.0;
          origin_fits = origin_fits i;
          hint_fits = hint_fits i;
          no_hint = λ none. no_hint none i;
          new = new.0;
        },
        entries_lawful is (i + 1) (origin_at words i ∷ earlier) ascend.1.1 parts.1 (still_new i earlier is parts.0 new.1),
      )
