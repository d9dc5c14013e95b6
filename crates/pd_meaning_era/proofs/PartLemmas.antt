-- The eras of a part of the blocks, which rows raise.
use Rattle.std.proofs.Common.{◌≡◌, ◌⊎◌, inl, inr, ℕ, ◌+◌, ◌-◌, ◌*◌, ◌/◌, ◌%◌, ◌<◌, ◌≤◌, Bool, true, false, not, ◌&&◌, nat_eq, nat_lt, List, length, get_or, refl, sym, ap, ap₂, ◌∙◌, arith, cond, max, [], ◌∷◌, ◌++◌, drop, length-append, map, Result, Ok, Err}
use Rattle.std.specs.Int.{bit_at}
use Rattle.std.proofs.lemmas.Bool.{cases_lt, lt-ltb, le-ltb}
use Rattle.std.proofs.lemmas.List.{get_or_past, get_or-drop, get_or-map, get_or_append_left, get_or-append_right, length-map}
use Rattle.std.proofs.lemmas.Nat.Bits.{bit_at-zero}
use Rattle.std.specs.List.{range_with_len}
use Rattle.std.proofs.lemmas.List.FromFn.{fill_by_all, get_or-map-range_with_len, length-map-range_with_len}
use Rattle.std.specs.Result.{OnOk}
use Rattle.pd_kinds.specs.Array.{word_at, word_count}
use Rattle.pd_kinds.specs.EraFormat.{EraFields}
use Rattle.pd_tree.specs.Cursor.{words_from}
use Rattle.pd_meaning_era.specs.Eras.{holds_from, era_below, eras_below, from_era, is_current, sets_below, with_sets, words_below}
use Rattle.pd_meaning_era.proofs.RaiseLemmas.{length-words, word_in}
use Rattle.pd_meaning_era.specs.EraWords.{era_words}
use Rattle.pd_meaning_era.specs.declared.eras.Eras.{Eras}
use Rattle.pd_meaning_era.specs.declared.notes.Row.{Row}
use Rattle.pd_meaning_era.specs.Notes.{HasRows, RaisesRows, with_rows}
use Rattle.pd_meaning_era.specs.Parts.{IsPart, blocks_left, eras_left}

-- a word of a block, counted from a later one
words_later : (block : List ℕ) (from k n : ℕ) → n ≡ from + k → get_or (words_from 8 block 0) n 0 ≡ get_or (words_from 8 block from) k 0
words_later block from k n is = elim (cases_lt n (word_count 8 block)) [
  | inl within ↦
      let same : 0 + n ≡ from + k = omega arith in
      word_in 8 block 0 n (omega arith) ∙ (ap (λ (m : ℕ). word_at 8 block m) same ∙ sym (word_in 8 block from k (omega arith)))
  | inr past ↦
      let whole = length-words 8 block 0 in
      let rest = length-words 8 block from in
      get_or_past (words_from 8 block 0) n 0 (omega arith) ∙ sym (get_or_past (words_from 8 block from) k 0 (omega arith))
]

-- tests that say the same, and so two values where the first does
both_or_none : (a b c d e f : Bool) → a ≡ b → c ≡ d → (c ≡ false → e ≡ f) → (a && (not c && e)) ≡ (b && (not d && f))
both_or_none a b true d e f first second third = rw (first, sym second) refl
both_or_none a b false d e f first second third = rw (first, sym second, third refl) refl

same_test : (a b c d : ℕ) → (a < b → c < d) → (c < d → a < b) → nat_lt a b ≡ nat_lt c d
same_test a b c d to from = elim (cases_lt a b) [
  | inl less ↦ rw (lt-ltb a b less, lt-ltb c d (to less)) refl
  | inr more ↦ elim (cases_lt c d) [
    | inl less ↦ absurd (let wrong = from less in omega arith)
    | inr past ↦ rw (le-ltb a b more, le-ltb c d past) refl
  ]
]

-- blocks of the part, and those of the target
pub shifted : (end near first later base from : ℕ) (block : List ℕ) (i : ℕ) → later ≡ first - base → from ≡ base - first → (i < near → 64 * base + i < end) → (64 * base + i < end → i < near)
    → holds_from near later (words_from 8 block from) i ≡ holds_from end first (words_from 8 block 0) (64 * base + i)
shifted end near first later base from block i later_is from_is inside most =
    let q = i / 64 in
    let b = 64 * base + i in
    let word : b / 64 ≡ base + q = omega arith in
    let bit : b % 64 ≡ i % 64 = omega arith in
    both_or_none (nat_lt i near) (nat_lt b end) (nat_lt q later) (nat_lt (b / 64) first) (nat_eq (bit_at (get_or (words_from 8 block from) (q - later) 0) (i % 64)) 1)
    (nat_eq (bit_at (get_or (words_from 8 block 0) (b / 64 - first) 0) (b % 64)) 1)
    (same_test i near b end inside most)
    (same_test q later (b / 64) first (λ less. omega arith) (λ less. omega arith))
    (λ behind.
    let here : later ≤ q = not_less q later behind in
    let place : b / 64 - first ≡ from + (q - later) = omega arith in
    rw (bit) (ap (λ (w : ℕ). nat_eq (bit_at w (i % 64)) 1) (sym (words_later block from (q - later) (b / 64 - first) place))))
  where
    not_less : (m n : ℕ) → nat_lt m n ≡ false → n ≤ m
    not_less m n is = elim (cases_lt m n) [
      | inl less ↦ absurd (let wrong = rw (lt-ltb m n less) at is in cc)
      | inr more ↦ more
    ]

-- a row that has no bits of the part
pub no_bits : (end first base number : ℕ) (words : List ℕ) (i : ℕ) → i < number → length words ≤ 509 → (end ≤ 64 * base) ⊎ ((64 * base + number ≤ 64 * first) ⊎ (first + 509 ≤ base)) → holds_from end first words (64 * base + i) ≡ false
no_bits end first base number words i within few none = elim none [
  | inl past ↦ rw (le-ltb (64 * base + i) end (omega arith)) refl
  | inr other ↦ elim other [
    | inl before ↦ rw (lt-ltb ((64 * base + i) / 64) first (omega arith)) (ands_none (nat_lt (64 * base + i) end))
    | inr after ↦
        rw (get_or_past words ((64 * base + i) / 64 - first) 0 (omega arith), bit_at-zero ((64 * base + i) % 64))
        (ands_false (nat_lt (64 * base + i) end) (not (nat_lt ((64 * base + i) / 64) first)))
  ]
]
  where
    ands_none : (t : Bool) → (t && false) ≡ false
    ands_none true = refl
    ands_none false = refl

    ands_false : (s t : Bool) → (s && (t && false)) ≡ false
    ands_false true true = refl
    ands_false true false = refl
    ands_false false t = refl

-- The eras that are left, at the start and after a part.

-- lists of one length that have the same numbers are one
same_lists : (xs ys : List ℕ) → length xs ≡ length ys → ((k : ℕ) → k < length ys → get_or xs k 0 ≡ get_or ys k 0) → xs ≡ ys
same_lists xs ys number each = fill_by_all (λ k. get_or ys k 0) xs (length ys) 0 number each ∙ sym (fill_by_all (λ k. get_or ys k 0) ys (length ys) 0 refl (λ k within. refl))

pub blocks_left_is : (eras : Eras) → blocks_left eras ≡ eras.blocks - 64 * eras.next
unfolding blocks_left
blocks_left_is eras = refl

module _ (image : List (List ℕ)) where
  pub length_left : (eras : Eras) → length (eras_left image eras) ≡ blocks_left eras
  unfolding eras_left
  length_left eras =
      length-map-range_with_len (λ b. with_rows image eras.rows.items b (get_or (era_words image eras.words) (b - 64 * eras.next) 0)) (64 * eras.next) (blocks_left eras)

  at_left : (eras : Eras) (k : ℕ) → k < blocks_left eras → get_or (eras_left image eras) k 0 ≡ with_rows image eras.rows.items (64 * eras.next + k) (get_or (era_words image eras.words) k 0)
  unfolding eras_left
  at_left eras k within =
      let same : 64 * eras.next + k - 64 * eras.next ≡ k = omega arith in
      get_or-map-range_with_len (λ b. with_rows image eras.rows.items b (get_or (era_words image eras.words) (b - 64 * eras.next) 0)) (64 * eras.next) (blocks_left eras) k (64 * eras.next + k) 0 within refl
      ∙ ap (λ (i : ℕ). with_rows image eras.rows.items (64 * eras.next + k) (get_or (era_words image eras.words) i 0)) same

  -- before the first part
  at_below : (fields : EraFields) (k : ℕ) → k < fields.blocks → get_or (eras_below image fields) k 0 ≡ era_below image fields k
  unfolding eras_below
  at_below fields k within = get_or-map-range_with_len (era_below image fields) 0 fields.blocks k k 0 within (omega arith)

  length_below : (fields : EraFields) → length (eras_below image fields) ≡ fields.blocks
  unfolding eras_below
  length_below fields = length-map-range_with_len (era_below image fields) 0 fields.blocks

  pub all_left : (least : ℕ) (eras : Eras) (fields : EraFields) → eras.blocks ≡ fields.blocks → eras.next ≡ 0 → era_words image eras.words ≡ words_below 4 image fields.array_root
      → HasRows image fields least eras.rows.items → map (from_era least) (eras_left image eras) ≡ map (from_era least) (eras_below image fields)
  all_left least eras fields blocks start words rows =
      let left = blocks_left_is eras in
      let all : blocks_left eras ≡ fields.blocks = omega arith in
      let before = length_left eras in
      let after = length_below fields in
      let f : ℕ → ℕ = from_era least in
      same_lists (map f (eras_left image eras)) (map f (eras_below image fields))
      (length-map (eras_left image eras) f ∙ (before ∙ (all ∙ sym (length-map (eras_below image fields) f ∙ after))))
      (λ k inside.
      let within : k < fields.blocks = omega (arith, inside, length-map (eras_below image fields) f, after) in
      let place : 64 * eras.next + k ≡ k = omega arith in
      get_or-map f (eras_left image eras) k 0 0 (omega arith)
      ∙ (ap f (at_left eras k (omega arith) ∙ ap (λ (b : ℕ). with_rows image eras.rows.items b (get_or (era_words image eras.words) k 0)) place)
      ∙ (rows.each k (get_or (era_words image eras.words) k 0) within
      ∙ (ap (λ (ws : List ℕ). f (max (with_sets image (sets_below image fields.writesets_root) k (get_or ws k 0)) (cond (is_current image fields k) fields.era 0))) words
      ∙ sym (get_or-map f (eras_below image fields) k 0 0 (omega arith) ∙ ap f (at_below fields k within))))))

  -- a part was taken
  pub takes_part : (old new : Eras) (count : ℕ) (first : List ℕ) → new.rows.items ≡ old.rows.items → length new.part.items ≡ count → count ≤ blocks_left old → (count < blocks_left old → 64 * new.next ≡ 64 * old.next + count)
      → count + (new.blocks - 64 * new.next) ≡ blocks_left old → length first ≡ count → first ≡ map (λ i. get_or (era_words image old.words) i 0) (range_with_len 0 count)
      → era_words image new.words ≡ drop count (era_words image old.words) → RaisesRows image old.next old.rows.items first new.part.items → IsPart image old new
  takes_part old new count first rows number most whole left first_number first_is words raised =
      let part = new.part.items in
      let both = length-append part (eras_left image new) in
      let here_left = blocks_left_is new in
      let before = length_left old in
      let after = length_left new in
      record { part = same_lists (eras_left image old) (part ++ eras_left image new) (omega arith) (λ k within. at k (omega arith)) }
    where
      W : List ℕ
      W = era_words image old.words

      here : (k : ℕ) → k < count → get_or new.part.items k 0 ≡ with_rows image old.rows.items (64 * old.next + k) (get_or W k 0)
      here k within =
          raised.each k (omega arith)
          ∙ ap (with_rows image old.rows.items (64 * old.next + k))
          (ap (λ (xs : List ℕ). get_or xs k 0) first_is ∙ get_or-map-range_with_len (λ i. get_or W i 0) 0 count k k 0 within (omega arith))

      there : (k : ℕ) → count ≤ k → k < blocks_left old → get_or (eras_left image new) (k - count) 0 ≡ with_rows image old.rows.items (64 * old.next + k) (get_or W k 0)
      there k behind within =
          let place : 64 * new.next + (k - count) ≡ 64 * old.next + k = let same = whole (omega arith) in omega arith in
          let word : count + (k - count) ≡ k = omega arith in
          let here_left = blocks_left_is new in
          at_left new (k - count) (omega arith)
          ∙ (ap (λ (b : ℕ). with_rows image new.rows.items b (get_or (era_words image new.words) (k - count) 0)) place
          ∙ (ap (λ (rs : List Row). with_rows image rs (64 * old.next + k) (get_or (era_words image new.words) (k - count) 0)) rows
          ∙ ap (with_rows image old.rows.items (64 * old.next + k))
          (ap (λ (ws : List ℕ). get_or ws (k - count) 0) words ∙ (get_or-drop count W (k - count) 0 ∙ ap (λ (i : ℕ). get_or W i 0) word))))

      at : (k : ℕ) → k < blocks_left old → get_or (eras_left image old) k 0 ≡ get_or (new.part.items ++ eras_left image new) k 0
      at k within = elim (cases_lt k count) [
        | inl less ↦ at_left old k within ∙ (sym (here k less) ∙ sym (get_or_append_left new.part.items (eras_left image new) 0 k (omega arith)))
        | inr behind ↦ at_left old k within ∙ (sym (there k behind within) ∙ sym (get_or-append_right new.part.items (eras_left image new) count k 0 (omega arith) behind))
      ]

-- from the first era on, all eras are told
from_first : (eras : List ℕ) → map (from_era 0) eras ≡ eras
from_first [] = refl
from_first (era ∷ eras) = let same : max (0 - 1) era ≡ era = omega arith in ap₂ (λ (e : ℕ) (es : List ℕ). e ∷ es) same (from_first eras)

pub all_told : (left below : List ℕ) → map (from_era 0) left ≡ map (from_era 0) below → left ≡ below
all_told left below same = sym (from_first left) ∙ (same ∙ from_first below)

-- Facts over what a device tells, and under a result.

pub ok_maps : {T E : Type 0} → (result : Result T E) (P Q : Type 0) → (P → Q) → OnOk result P → OnOk result Q
ok_maps (Ok x) P Q f p = f p
ok_maps (Err e) P Q f p = tt
