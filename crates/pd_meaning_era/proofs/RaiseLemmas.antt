-- Eras that are raised bit after bit, and word after word.
use Rattle.std.proofs.Common.{◌≡◌, inl, inr, ℕ, ◌+◌, ◌/◌, ◌%◌, ◌<◌, Bool, true, false, cond, ◌&&◌, ◌||◌, nat_eq, nat_lt, max, List, length, get_or, refl, ap, ◌∙◌, arith, zero, suc, ◌-◌, ◌*◌, ◌≤◌, not, set, sym, eq-eqb}
use Rattle.std.specs.Int.{bit_at}
use Rattle.std.proofs.lemmas.Bool.{cases_lt, lt-ltb, le-ltb, cases_eq, ne_eqb}
use Rattle.std.specs.Int.Bits.{bit_or, bit_xor}
use Rattle.std.specs.List.{range_with_len}
use Rattle.std.proofs.lemmas.List.{get_or_past, get_or-set_other, get_or-set_same, length-map}
use Rattle.std.proofs.lemmas.List.FromFn.{get_or-map-range_with_len, length-range_with_len}
use Rattle.std.proofs.lemmas.Nat.Bits.{bit_at-lt, bit_at-zero, bit_at_or, bit_at_xor}
use Rattle.std.proofs.lemmas.Bool.Decides.{nat_tests}
use Rattle.pd_kinds.proofs.NumberLemmas.{or_false}
use Rattle.pd_kinds.specs.Array.{array_entries, array_max, array_value_size, is_array_shape_bad, word_at, word_count}
use Rattle.pd_kinds.specs.Meaning.{is_bit_set}
use Rattle.pd_kinds.proofs.ReportLemmas.{greater_bit}
use Rattle.pd_tree.specs.Cursor.{words_from}
use Rattle.pd_meaning_era.specs.Eras.{Raises, raised as raised_by, AreAtLeast, holds_from, holds_in_word}

-- tests that say the same of each block
pub raises_same : (era : ℕ) (f g : ℕ → Bool) (old new : List ℕ) → ((b : ℕ) → b < length old → f b ≡ g b) → Raises era f old new → Raises era g old new
raises_same era f g old new same raised = record {
  number = raised.number;
  each = λ b within. raised.each b within ∙ ap (λ (t : Bool). raised_by era t (get_or old b 0)) (same b within);
}

-- no block is held
pub raises_none : (era : ℕ) (f : ℕ → Bool) (old : List ℕ) → ((b : ℕ) → b < length old → f b ≡ false) → Raises era f old old
raises_none era f old none = record {
  number = refl;
  each = λ b within. rw (none b within) (omega arith);
}

-- blocks that are held, and others
pub twice : (era x : ℕ) (s t : Bool) → max (max x (cond s era 0)) (cond t era 0) ≡ max x (cond (s || t) era 0)
twice era x true true = omega arith
twice era x true false = omega arith
twice era x false true = omega arith
twice era x false false = omega arith

pub raises_then : (era : ℕ) (f g : ℕ → Bool) (a b c : List ℕ) → Raises era f a b → Raises era g b c → Raises era (λ n. f n || g n) a c
raises_then era f g a b c first second = record {
  number = second.number ∙ first.number;
  each = λ n within.
      let there : n < length b = let same = first.number in omega arith in
      second.each n there ∙ (ap (λ (x : ℕ). raised_by era (g n) x) (first.each n within) ∙ twice era (get_or a n 0) (f n) (g n));
}

-- the bits of a word before bit i
abbrev pub holds_bits : ℕ → ℕ → ℕ → ℕ → ℕ → Bool
holds_bits end number word i b = nat_lt b end && (nat_eq (b / 64) number && (nat_lt (b % 64) i && nat_eq (bit_at word (b % 64)) 1))

-- a number below the next one, that isn't this one
pub below_next : (n i : ℕ) → (n ≡ i → ⊥) → nat_lt n i ≡ nat_lt n (i + 1)
below_next n i other = elim (cases_lt n i) [
  | inl less ↦ rw (lt-ltb n i less, lt-ltb n (i + 1) (omega arith)) refl
  | inr more ↦ rw (le-ltb n i more, le-ltb n (i + 1) (omega arith)) refl
]

-- one word more
pub other_word : (before later is : Bool) (held below any : Bool) → is ≡ false → before ≡ later → ((before && held) || (below && (is && any))) ≡ (later && held)
other_word before later is held true any other same = rw (other, same) (or_false (later && held))
other_word before later is held false any other same = rw same (or_false (later && held))

-- Eras that are raised but for the blocks whose eras are as high.

-- an era that is as high stays
pub raised_low : (era x : ℕ) (held : Bool) → era ≤ x → raised_by era held x ≡ x
raised_low era x true low = omega arith
raised_low era x false low = omega arith

-- eras that were at least as high are so after others were raised
pub still_high : (high era least : ℕ) (f g : ℕ → Bool) (old new : List ℕ) → least ≤ high → Raises era f old new → AreAtLeast high g old → AreAtLeast least g new
still_high high era least f g old new less raised low = record {
  each = λ b within is.
      let there : b < length old = let same = raised.number in omega arith in
      let now = raised.each b there in
      let before = low.each b there is in
      omega arith;
}

-- those that were raised are
pub raised_high : (era : ℕ) (f : ℕ → Bool) (old new : List ℕ) → Raises era f old new → AreAtLeast era f new
raised_high era f old new raised = record {
  each = λ b within is.
      let there : b < length old = let same = raised.number in omega arith in
      let now = rw is at (raised.each b there) in
      omega arith;
}

-- the bits of a word that others don't have
fresh_table : (a b : ℕ) → a < 2 → b < 2 → nat_eq ((max a b + b) % 2) 1 ≡ (nat_eq a 1 && not (nat_eq b 1))
fresh_table zero zero h k = refl
fresh_table zero (suc zero) h k = refl
fresh_table zero (suc (suc b)) h k = absurd (omega arith)
fresh_table (suc zero) zero h k = refl
fresh_table (suc zero) (suc zero) h k = refl
fresh_table (suc zero) (suc (suc b)) h k = absurd (omega arith)
fresh_table (suc (suc a)) b h k = absurd (omega arith)

fresh_bit : (word known k : ℕ) → nat_eq (bit_at (bit_xor (bit_or word known) known) k) 1 ≡ (nat_eq (bit_at word k) 1 && not (nat_eq (bit_at known k) 1))
fresh_bit word known k =
    rw (bit_at_xor (bit_or word known) known k, bit_at_or word known k) (fresh_table (bit_at word k) (bit_at known k) (bit_at-lt word k) (bit_at-lt known k))

-- they raise the same
at_place : (era x : ℕ) (below is word known : Bool) → (known ≡ true → era ≤ x) → raised_by era (below && (is && (word && not known))) x ≡ raised_by era (below && (is && word)) x
at_place era x below is word true low =
    raised_low era x (below && (is && (word && false))) (low refl) ∙ sym (raised_low era x (below && (is && word)) (low refl))
at_place era x below is true false low = refl
at_place era x below is false false low = refl

pub fresh_raises : (era end number word : ℕ) (taken old new : List ℕ) → AreAtLeast era (is_bit_set taken) old
    → Raises era (holds_in_word end number (bit_xor (bit_or word (get_or taken number 0)) (get_or taken number 0))) old new → Raises era (holds_in_word end number word) old new
fresh_raises era end number word taken old new low raised = record {
  number = raised.number;
  each = λ b within. raised.each b within ∙ one b within;
}
  where
    one : (b : ℕ) → b < length old
        → raised_by era (holds_in_word end number (bit_xor (bit_or word (get_or taken number 0)) (get_or taken number 0)) b) (get_or old b 0) ≡ raised_by era (holds_in_word end number word b) (get_or old b 0)
    one b within = elim (cases_eq (b / 64) number) [
      | inl here ↦
          rw (fresh_bit word (get_or taken number 0) (b % 64))
          (at_place era (get_or old b 0) (nat_lt b end) (nat_eq (b / 64) number) (nat_eq (bit_at word (b % 64)) 1) (nat_eq (bit_at (get_or taken number 0) (b % 64)) 1)
          (rw here at (low.each b within)))
      | inr other ↦ rw (ne_eqb (b / 64) number other) refl
    ]

either : (s t : Bool) (P : Type 0) → (s || t) ≡ true → (s ≡ true → P) → (t ≡ true → P) → P
either true t P is left right = left refl
either false t P is left right = right is

pub taken_more : (era end number word : ℕ) (taken later eras : List ℕ) → number < length taken → 64 * number + 64 ≤ end → later ≡ set taken number (bit_or (get_or taken number 0) word)
    → AreAtLeast era (is_bit_set taken) eras → AreAtLeast era (holds_in_word end number word) eras → AreAtLeast era (is_bit_set later) eras
taken_more era end number word taken later eras inside whole is known new = record {
  each = λ b within set. elim (cases_eq (b / 64) number) [
    | inl here ↦
        let bits = rw (
          is,
          here,
          get_or-set_same taken number (bit_or (get_or taken number 0) word) 0 inside,
          bit_at_or (get_or taken number 0) word (b % 64),
          greater_bit (bit_at (get_or taken number 0) (b % 64)) (bit_at word (b % 64)) (bit_at-lt (get_or taken number 0) (b % 64)) (bit_at-lt word (b % 64)),
        ) at set in
        let below : b < end = omega arith in
        either (nat_eq (bit_at (get_or taken number 0) (b % 64)) 1) (nat_eq (bit_at word (b % 64)) 1) (era ≤ get_or eras b 0) bits
        (rw here at (known.each b within))
        (λ one. new.each b within (rw (lt-ltb b end below, here, eq-eqb number number refl, one) refl))
    | inr other ↦
        known.each b within (rw (is, get_or-set_other taken number (b / 64) (bit_or (get_or taken number 0) word) 0 other) at set)
  ];
}

-- a word past the end holds none
pub word_past : (end number word b : ℕ) → end ≤ 64 * number → holds_in_word end number word b ≡ false
word_past end number word b past = elim (cases_eq (b / 64) number) [
  | inl here ↦ rw (le-ltb b end (omega arith)) refl
  | inr other ↦ rw (ne_eqb (b / 64) number other) (none (nat_lt b end))
]
  where
    none : (t : Bool) → (t && false) ≡ false
    none true = refl
    none false = refl

-- words before one of them
abbrev pub holds_upto : ℕ → ℕ → List ℕ → ℕ → ℕ → Bool
holds_upto end first words i b = nat_lt (b / 64) (first + i) && holds_from end first words b

none_yet : (before below set : Bool) → (before && (below && (not before && set))) ≡ false
none_yet true true set = refl
none_yet true false set = refl
none_yet false below set = refl

pub upto_none : (end first : ℕ) (words : List ℕ) (b : ℕ) → holds_upto end first words 0 b ≡ false
upto_none end first words b =
    let same : first + 0 ≡ first = omega arith in
    rw same (none_yet (nat_lt (b / 64) first) (nat_lt b end) (nat_eq (bit_at (get_or words (b / 64 - first) 0) (b % 64)) 1))

this_word : (below set : Bool) → (false || (below && (true && set))) ≡ (true && (below && (true && set)))
this_word true true = refl
this_word true false = refl
this_word false set = refl

pub upto_more : (end first : ℕ) (words : List ℕ) (i word b : ℕ) → word ≡ get_or words i 0
    → (holds_upto end first words i b || holds_in_word end (first + i) word b) ≡ holds_upto end first words (i + 1) b
upto_more end first words i word b is = elim (cases_eq (b / 64) (first + i)) [
  | inl here ↦
      let place : b / 64 - first ≡ i = omega arith in
      let more : b / 64 < first + (i + 1) = omega arith in
      let less : first + i ≤ b / 64 = omega arith in
      let after : first ≤ b / 64 = omega arith in
      rw (le-ltb (b / 64) (first + i) less, lt-ltb (b / 64) (first + (i + 1)) more, le-ltb (b / 64) first after, eq-eqb (b / 64) (first + i) here, place, is)
      (this_word (nat_lt b end) (nat_eq (bit_at (get_or words i 0) (b % 64)) 1))
  | inr other ↦
      let next : first + (i + 1) ≡ (first + i) + 1 = omega arith in
      rw next
      (other_word (nat_lt (b / 64) (first + i)) (nat_lt (b / 64) (first + i + 1)) (nat_eq (b / 64) (first + i)) (holds_from end first words b) (nat_lt b end) (nat_eq (bit_at word (b % 64)) 1)
      (ne_eqb (b / 64) (first + i) other) (below_next (b / 64) (first + i) other))
]

none_past : (before below : Bool) → (before && (below && (true && false))) ≡ (below && (true && false))
none_past true below = refl
none_past false true = refl
none_past false false = refl

pub upto_all : (end first : ℕ) (words : List ℕ) (i b : ℕ) → i ≡ length words → holds_upto end first words i b ≡ holds_from end first words b
upto_all end first words i b all = elim (cases_lt (b / 64) (first + i)) [
  | inl below ↦ rw (lt-ltb (b / 64) (first + i) below) refl
  | inr past ↦
      let none = get_or_past words (b / 64 - first) 0 (omega arith) in
      rw (le-ltb (b / 64) first (omega arith), none, bit_at-zero (b % 64)) (none_past (nat_lt (b / 64) (first + i)) (nat_lt b end))
]

-- the words of a block, from one of them on
pub length-words : (size : ℕ) (block : List ℕ) (from : ℕ) → length (words_from size block from) ≡ word_count size block - from
unfolding words_from
length-words size block from =
    let n = word_count size block - from in
    length-map {A = ℕ} {B = ℕ} (range_with_len from n) (word_at size block) ∙ length-range_with_len from n

pub word_in : (size : ℕ) (block : List ℕ) (from i : ℕ) → i < word_count size block - from → get_or (words_from size block from) i 0 ≡ word_at size block (from + i)
unfolding words_from
word_in size block from i within = get_or-map-range_with_len (word_at size block) from (word_count size block - from) i (from + i) 0 within (omega arith)

-- an array block has at most 509 words of eight bytes
few_plain : (size wanted max most entries : ℕ) → (not (nat_eq size wanted) || (not (nat_eq max most) || nat_lt max entries)) ≡ false → most ≤ 509 → entries ≤ 509
few_plain size wanted max most entries sound few = grind (arith, nat_tests)

few_if : (bad : Bool) (count : ℕ) → (bad ≡ false → count ≤ 509) → cond bad 0 count ≤ 509
few_if true count few = omega arith
few_if false count few = few refl

pub few_words : (block : List ℕ) → word_count 8 block ≤ 509
unfolding word_count is_array_shape_bad
few_words block = few_if (is_array_shape_bad 8 block) (array_entries block) (λ sound. few_plain (array_value_size block) 8 (array_max block) 509 (array_entries block) sound (omega arith))

-- what is so of an era is so of an earlier one
pub least_lower : (high least : ℕ) (f : ℕ → Bool) (eras : List ℕ) → least ≤ high → AreAtLeast high f eras → AreAtLeast least f eras
least_lower high least f eras less low = record { each = λ b within is. let here = low.each b within is in omega arith }

-- no bit is set
pub none_taken : (era : ℕ) (taken eras : List ℕ) → ((i : ℕ) → i < length taken → get_or taken i 0 ≡ 0) → AreAtLeast era (is_bit_set taken) eras
none_taken era taken eras none = record {
  each = λ b within is. absurd (impossible (b % 64) (get_or taken (b / 64) 0) (zero_at (b / 64)) is);
}
  where
    zero_at : (i : ℕ) → get_or taken i 0 ≡ 0
    zero_at i = elim (cases_lt i (length taken)) [ inl within ↦ none i within | inr past ↦ get_or_past taken i 0 past ]

    impossible : (k word : ℕ) → word ≡ 0 → nat_eq (bit_at word k) 1 ≡ true → ⊥
    impossible k word zeroed is = let wrong = rw (zeroed, bit_at-zero k) at is in cc
