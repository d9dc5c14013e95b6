-- Origins that are added one after another: their bits, and those that have none.
use Rattle.std.proofs.Common.{◌≡◌, inl, inr, ℕ, zero, suc, ◌+◌, ◌<◌, ◌≤◌, Bool, true, false, cond, nat_eq, List, [], ◌∷◌, ◌++◌, length, get_or, refl, sym, ap, ◌∙◌, subst, arith, eq-eqb, ◌/◌, ◌%◌, ◌-◌, ◌^◌, ◌*◌, ◌||◌, set, take, replicate, bit_or, get_or-set_same, get_or-set_other}
use Rattle.std.specs.List.{list_any}
use Rattle.std.specs.List.Sorted.{IsPermutation, IsNonDecreasing}
use Rattle.std.proofs.lemmas.Bool.{cases_Bool, both_ways, eqb-true, ne_eqb, or_cases, or_left, or_right, cases_eq, cases_lt}
use Rattle.std.proofs.lemmas.List.Sorted.{sum_by-IsPermutation}
use Rattle.std.proofs.lemmas.List.Sums.{sum_by-append, sum_by-cons}
use Rattle.std.specs.Int.{bit_at, w64}
use Rattle.std.proofs.Math.Bool.{or-false, or-true}
use Rattle.std.proofs.lemmas.Nat.Bits.{bit_at-zero, bit_at_set_other, bit_at_set_same}
use Rattle.std.proofs.lemmas.List.{get_or_past, get_or_append_left, get_or-append_right, get_or-replicate, length-replicate, take_all}
use Rattle.pd_kinds.specs.Whole.{has_repeat}
use Rattle.pd_kinds.proofs.NumberLemmas.{same_test, differ}
use Rattle.pd_graph.proofs.BitLemmas.{counts_none, counts_one}
use Rattle.pd_meaning_cache.specs.OriginSet.{count_of, AreCounted, is_set}

-- Numbers that come twice in a list: by how often each comes, in any order, and in a sorted list.

pub count-append : (x : ℕ) (xs ys : List ℕ) → count_of x (xs ++ ys) ≡ count_of x xs + count_of x ys
count-append x xs ys = sum_by-append (λ y. cond (nat_eq y x) 1 0) xs ys

count-cons : (x y : ℕ) (ys : List ℕ) → count_of x (y ∷ ys) ≡ cond (nat_eq y x) 1 0 + count_of x ys
count-cons x y ys = sum_by-cons (λ z. cond (nat_eq z x) 1 0) y ys

pub count_here : (x y : ℕ) (ys : List ℕ) → nat_eq y x ≡ true → count_of x (y ∷ ys) ≡ suc (count_of x ys)
count_here x y ys here = count-cons x y ys ∙ (ap (λ (b : Bool). cond b 1 0 + count_of x ys) here ∙ omega arith)

pub count_there : (x y : ℕ) (ys : List ℕ) → nat_eq y x ≡ false → count_of x (y ∷ ys) ≡ count_of x ys
count_there x y ys there = count-cons x y ys ∙ (ap (λ (b : Bool). cond b 1 0 + count_of x ys) there ∙ omega arith)

-- a number comes where it is among them
any_by_count : (x : ℕ) (xs : List ℕ) → 1 ≤ count_of x xs → list_any (λ y. nat_eq y x) xs ≡ true
any_by_count x [] some = absurd (omega arith)
any_by_count x (y ∷ ys) some = elim (cases_Bool (nat_eq y x)) [
  | inl here ↦ or_left (nat_eq y x) _ here
  | inr there ↦ or_right (nat_eq y x) _ (any_by_count x ys (let same = count_there x y ys there in omega arith))
]

count_by_any : (x : ℕ) (xs : List ℕ) → list_any (λ y. nat_eq y x) xs ≡ true → 1 ≤ count_of x xs
count_by_any x [] any = absurd (both_ways false refl any)
count_by_any x (y ∷ ys) any = elim (cases_Bool (nat_eq y x)) [
  | inl here ↦ let more = count_here x y ys here in omega arith
  | inr there ↦
      let same = count_there x y ys there in
      let rest = count_by_any x ys (elim (or_cases (nat_eq y x) _ any) [
        | inl here ↦ absurd (both_ways (nat_eq y x) there here)
        | inr later ↦ later
      ]) in
      omega arith
]

-- a number that comes twice
pub repeat_by_count : (x : ℕ) (xs : List ℕ) → 2 ≤ count_of x xs → has_repeat xs ≡ true
unfolding has_repeat
repeat_by_count x [] two = absurd (omega arith)
repeat_by_count x (y ∷ ys) two = elim (cases_Bool (nat_eq y x)) [
  | inl here ↦
      let more = count_here x y ys here in
      or_left _ (has_repeat ys) (subst (λ (z : ℕ). list_any (λ w. nat_eq w z) ys ≡ true) (sym (eqb-true y x here)) (any_by_count x ys (omega arith)))
  | inr there ↦ or_right _ (has_repeat ys) (repeat_by_count x ys (let same = count_there x y ys there in omega arith))
]

pub count_by_repeat : (xs : List ℕ) → has_repeat xs ≡ true → (x : ℕ) × (2 ≤ count_of x xs)
unfolding has_repeat
count_by_repeat [] repeat = absurd (both_ways false refl repeat)
count_by_repeat (y ∷ ys) repeat = elim (or_cases (list_any (λ z. nat_eq z y) ys) (has_repeat ys) repeat) [
  | inl here ↦ (y, let some = count_by_any y ys here in let more = count_here y y ys (eq-eqb y y refl) in omega arith)
  | inr later ↦
      let rest = count_by_repeat ys later in
      (rest.0, let two = rest.1 in let more = count-cons rest.0 y ys in omega arith)
]

-- a list that has a repeat has one with more behind it
pub repeat_behind : (xs ys : List ℕ) → has_repeat xs ≡ true → has_repeat (xs ++ ys) ≡ true
repeat_behind xs ys repeat =
    let twice = count_by_repeat xs repeat in
    let two = twice.1 in
    repeat_by_count twice.0 (xs ++ ys) (omega (arith, count-append twice.0 xs ys))

-- in any order
pub repeat_in_any_order : (xs ys : List ℕ) → IsPermutation xs ys → has_repeat ys ≡ has_repeat xs
repeat_in_any_order xs ys moved =
    let same = λ (x : ℕ). sum_by-IsPermutation (λ y. cond (nat_eq y x) 1 0) xs ys moved in
    same_test (has_repeat ys) (has_repeat xs)
    (λ repeat. let twice = count_by_repeat ys repeat in let two = twice.1 in repeat_by_count twice.0 xs (omega (arith, same twice.0)))
    (λ repeat. let twice = count_by_repeat xs repeat in let two = twice.1 in repeat_by_count twice.0 ys (omega (arith, same twice.0)))

-- two neighbours that are equal
pub repeat_at : (xs : List ℕ) (i : ℕ) → i + 1 < length xs → get_or xs i 0 ≡ get_or xs (i + 1) 0 → has_repeat xs ≡ true
unfolding has_repeat
repeat_at [] i within same = absurd (omega arith)
repeat_at (x ∷ []) i within same = absurd (omega arith)
repeat_at (x ∷ y ∷ ys) zero within same = or_left _ (has_repeat (y ∷ ys)) (or_left (nat_eq y x) _ (eq-eqb y x (sym same)))
repeat_at (x ∷ y ∷ ys) (suc i) within same = or_right _ (has_repeat (y ∷ ys)) (repeat_at (y ∷ ys) i (omega arith) (rw (let next : suc i + 1 ≡ suc (i + 1) = omega arith in next) at same))

-- each number is above the one before it
abbrev Rises : ℕ → List ℕ → Type 0
Rises low [] = Unit {0}
Rises low (x ∷ xs) = (low < x) × Rises x xs

rises_lower : (low lower : ℕ) (xs : List ℕ) → lower ≤ low → Rises low xs → Rises lower xs
rises_lower low lower [] less up = tt
rises_lower low lower (x ∷ xs) less up = let above = up.0 in (omega arith, up.1)

none_equal : (x : ℕ) (xs : List ℕ) → Rises x xs → list_any (λ y. nat_eq y x) xs ≡ false
none_equal x [] up = refl
none_equal x (y ∷ ys) up =
    let above = up.0 in
    rw (ne_eqb y x (λ same. omega arith)) (none_equal x ys (rises_lower y x ys (omega arith) up.1))

no_repeat : (low : ℕ) (xs : List ℕ) → Rises low xs → has_repeat xs ≡ false
unfolding has_repeat
no_repeat low [] up = refl
no_repeat low (x ∷ xs) up = rw (none_equal x xs up.1) (no_repeat x xs up.1)

-- a sorted list whose neighbours differ
rises_by : (low : ℕ) (xs : List ℕ) → (0 < length xs → low < get_or xs 0 0) → ((i : ℕ) → i + 1 < length xs → get_or xs i 0 < get_or xs (i + 1) 0) → Rises low xs
rises_by low [] first each = tt
rises_by low (x ∷ xs) first each = (
  first (omega arith),
  rises_by x xs (λ some. each 0 (omega arith)) (λ i within. rw (let next : suc i + 1 ≡ suc (i + 1) = omega arith in next) at (each (suc i) (omega arith))),
)

behind_first : (x : ℕ) (xs : List ℕ) → ((i : ℕ) → i + 1 < length (x ∷ xs) → get_or (x ∷ xs) i 0 < get_or (x ∷ xs) (i + 1) 0) → Rises x xs
behind_first x xs each =
    rises_by x xs (λ some. each 0 (omega arith)) (λ i within. rw (let next : suc i + 1 ≡ suc (i + 1) = omega arith in next) at (each (suc i) (omega arith)))

apart : (xs : List ℕ) → ((i : ℕ) → i + 1 < length xs → get_or xs i 0 < get_or xs (i + 1) 0) → has_repeat xs ≡ false
unfolding has_repeat
apart [] each = refl
apart (x ∷ xs) each = let up = behind_first x xs each in rw (none_equal x xs up) (no_repeat x xs up)

pub no_neighbours : (xs : List ℕ) → IsNonDecreasing xs → ((i : ℕ) → i + 1 < length xs → get_or xs i 0 ≡ get_or xs (i + 1) 0 → ⊥) → has_repeat xs ≡ false
no_neighbours xs sorted differ = apart xs (λ i within. let up = sorted i (i + 1) 0 (omega arith) within in let ne = differ i within in omega arith)

-- the bit of a number in the words
pub is_set-parts : (words : List ℕ) (x : ℕ) → is_set words x ≡ nat_eq (bit_at (get_or words (x / 64) 0) (x % 64)) 1
unfolding is_set
is_set-parts words x = refl

-- no number past the words has one
pub is_set-past : (words : List ℕ) (x : ℕ) → length words ≤ x / 64 → is_set words x ≡ false
is_set-past words x past = is_set-parts words x ∙ rw (get_or_past words (x / 64) 0 past, bit_at-zero (x % 64)) refl

-- one bit more
pub is_set-more : (words : List ℕ) (o x : ℕ) → o / 64 < length words
    → is_set (set words (o / 64) (bit_or (get_or words (o / 64) 0) (1 * 2 ^ (o % 64) % 2 ^ 64))) x ≡ (is_set words x || nat_eq x o)
unfolding is_set
is_set-more words o x small =
    let word = get_or words (o / 64) 0 in
    let more = bit_or word (1 * 2 ^ (o % 64) % 2 ^ 64) in
    elim (cases_eq (x / 64) (o / 64)) [
      | inl same ↦ elim (cases_eq (x % 64) (o % 64)) [
        | inl place ↦
            rw (same, place, get_or-set_same words (o / 64) more 0 small, bit_at_set_same w64 word (o % 64) (omega arith), eq-eqb x o (omega arith))
            (sym (or-true (nat_eq (bit_at word (o % 64)) 1)))
        | inr apart ↦
            rw (same, get_or-set_same words (o / 64) more 0 small, bit_at_set_other w64 word (o % 64) (omega arith) (x % 64) apart, differ x o (λ e. apart (ap (λ n. n % 64) e)))
            (sym (or-false (nat_eq (bit_at word (x % 64)) 1)))
      ]
      | inr ne ↦
          rw (get_or-set_other words (o / 64) (x / 64) more 0 ne, differ x o (λ e. ne (ap (λ n. n / 64) e)))
          (sym (or-false (nat_eq (bit_at (get_or words (x / 64) 0) (x % 64)) 1)))
    ]

-- words of zeros behind
zero_behind : (words : List ℕ) (n i : ℕ) → get_or (words ++ replicate n 0) i 0 ≡ get_or words i 0
zero_behind words n i = elim (cases_lt i (length words)) [
  | inl low ↦ get_or_append_left words (replicate n 0) 0 i low
  | inr past ↦
      get_or-append_right words (replicate n 0) (length words) i 0 refl past
      ∙ (elim (cases_lt (i - length words) n) [
        | inl within ↦ get_or-replicate n (i - length words) 0 0 within
        | inr over ↦ get_or_past (replicate n 0) (i - length words) 0 (let zeros : length (replicate {A = ℕ} n 0) ≡ n = length-replicate n 0 in omega (arith, zeros, over))
      ]
      ∙ sym (get_or_past words i 0 past))
]

pub is_set-wide : (words : List ℕ) (n x : ℕ) → is_set (words ++ replicate n 0) x ≡ is_set words x
is_set-wide words n x =
    is_set-parts (words ++ replicate n 0) x ∙ (ap (λ (w : ℕ). nat_eq (bit_at w (x % 64)) 1) (zero_behind words n (x / 64)) ∙ sym (is_set-parts words x))

pub is_set-resized : (words new : List ℕ) (n len : ℕ) (ok : Bool) → length words ≤ n → new ≡ cond ok (take n words ++ replicate (n - len) 0) words
    → (x : ℕ) → is_set new x ≡ is_set words x
is_set-resized words new n len true fewer sets x =
    ap (λ (ws : List ℕ). is_set ws x) (sets ∙ ap (λ (ws : List ℕ). ws ++ replicate (n - len) 0) (take_all n words fewer)) ∙ is_set-wide words (n - len) x
is_set-resized words new n len false fewer sets x = ap (λ (ws : List ℕ). is_set ws x) sets

-- how often a number comes with one number more
one_at : (o x : ℕ) → count_of x (o ∷ []) ≡ cond (nat_eq x o) 1 0
one_at o x = elim (cases_eq o x) [
  | inl same ↦ count_here x o [] (eq-eqb o x same) ∙ sym (counts_one (nat_eq x o) (eq-eqb x o (sym same)))
  | inr ne ↦ count_there x o [] (differ o x ne) ∙ sym (counts_none (nat_eq x o) (differ x o (λ e. ne (sym e))))
]

pub count_one : (os : List ℕ) (o x : ℕ) → count_of x (os ++ o ∷ []) ≡ count_of x os + cond (nat_eq x o) 1 0
count_one os o x = count-append x os (o ∷ []) ∙ ap (λ (n : ℕ). count_of x os + n) (one_at o x)

pub counted_more : (os : List ℕ) (o : ℕ) (again was : Bool) (old new : ℕ → ℕ) → AreCounted os again old → (was ≡ true → 1 ≤ old o)
    → (was ≡ false → (x : ℕ) → new x ≡ old x + cond (nat_eq x o) 1 0) → AreCounted (os ++ o ∷ []) (again || was) new
counted_more os o true was old new before there one = record {
  again = λ a. repeat_behind os (o ∷ []) (before.again refl);
  number = λ a. absurd (both_ways true a refl);
}
counted_more os o false true old new before there one = record {
  again = λ a.
      let some = there refl in
      repeat_by_count o (os ++ o ∷ []) (omega (arith, before.number refl o, count_one os o o, counts_one (nat_eq o o) (eq-eqb o o refl)));
  number = λ a. absurd (both_ways true a refl);
}
counted_more os o false false old new before there one = record {
  again = λ a. absurd (both_ways false refl a);
  number = λ a x. omega (arith, one refl x, before.number refl x, count_one os o x);
}

-- a bit more, where it wasn't set
pub bit_more : (words new others : List ℕ) (o : ℕ) → ((x : ℕ) → is_set new x ≡ (is_set words x || nat_eq x o)) → is_set words o ≡ false
    → (x : ℕ) → count_of x others + cond (is_set new x) 1 0 ≡ count_of x others + cond (is_set words x) 1 0 + cond (nat_eq x o) 1 0
bit_more words new others o sets unset x = elim (cases_eq x o) [
  | inl same ↦
      let is = eq-eqb x o same in
      let now = counts_one (is_set new x) (sets x ∙ or_right (is_set words x) (nat_eq x o) is) in
      let was = counts_none (is_set words x) (ap (is_set words) same ∙ unset) in
      omega (arith, now, was, counts_one (nat_eq x o) is)
  | inr ne ↦
      let is = differ x o ne in
      let same : is_set new x ≡ is_set words x = sets x ∙ (ap (λ (b : Bool). is_set words x || b) is ∙ or-false (is_set words x)) in
      omega (arith, ap {B = ℕ} (λ (b : Bool). cond b 1 0) same, counts_none (nat_eq x o) is)
]

-- none yet
pub counted_none : (words others : List ℕ) → words ≡ [] → others ≡ [] → AreCounted [] false (λ x. count_of x others + cond (is_set words x) 1 0)
counted_none words others no_word no_other = record {
  again = λ a. absurd (both_ways false refl a);
  number = λ a x.
      let none = counts_none (is_set words x) (ap (λ (ws : List ℕ). is_set ws x) no_word ∙ is_set-past [] x (omega arith)) in
      omega (arith, none, ap (count_of x) no_other);
}

-- the same numbers
pub counted_same : (os : List ℕ) (again : Bool) (old new : ℕ → ℕ) → AreCounted os again old → ((x : ℕ) → new x ≡ old x) → AreCounted os again new
counted_same os again old new before same = record { again = before.again; number = λ a x. same x ∙ before.number a x }

-- a number that a list has, and passes
any_set : (test : ℕ → Bool) (xs : List ℕ) → list_any test xs ≡ true → (x : ℕ) × ((1 ≤ count_of x xs) × (test x ≡ true))
any_set test [] any = absurd (both_ways false refl any)
any_set test (y ∷ ys) any = elim (or_cases (test y) (list_any test ys) any) [
  | inl here ↦ (y, (let more = count_here y y ys (eq-eqb y y refl) in omega arith, here))
  | inr later ↦
      let rest = any_set test ys later in
      let some = rest.1.0 in
      (rest.0, (let more = count-append rest.0 (y ∷ []) ys in omega arith, rest.1.1))
]

set_any : (test : ℕ → Bool) (x : ℕ) (xs : List ℕ) → 1 ≤ count_of x xs → test x ≡ true → list_any test xs ≡ true
set_any test x [] some passes = absurd (omega arith)
set_any test x (y ∷ ys) some passes = elim (cases_eq y x) [
  | inl same ↦ or_left (test y) (list_any test ys) (ap test same ∙ passes)
  | inr ne ↦ or_right (test y) (list_any test ys) (set_any test x ys (let there = count_there x y ys (differ y x ne) in omega arith) passes)
]

-- whether one came twice
module _ (os words others : List ℕ) (number : (x : ℕ) → count_of x others + cond (is_set words x) 1 0 ≡ count_of x os) where
  found_forward : (list_any (is_set words) others || has_repeat others) ≡ true → has_repeat os ≡ true
  found_forward either = elim (or_cases (list_any (is_set words) others) (has_repeat others) either) [
    | inl mixed ↦
        let at = any_set (is_set words) others mixed in
        let some = at.1.0 in
        repeat_by_count at.0 os (omega (arith, number at.0, counts_one (is_set words at.0) at.1.1))
    | inr twice ↦
        let at = count_by_repeat others twice in
        let two = at.1 in
        repeat_by_count at.0 os (omega (arith, number at.0))
  ]

  found_back : has_repeat os ≡ true → (list_any (is_set words) others || has_repeat others) ≡ true
  found_back repeat =
      let at = count_by_repeat os repeat in
      let two = at.1 in
      elim (cases_Bool (is_set words at.0)) [
        | inl here ↦
            or_left (list_any (is_set words) others) (has_repeat others)
            (set_any (is_set words) at.0 others (omega (arith, number at.0, counts_one (is_set words at.0) here)) here)
        | inr none ↦
            or_right (list_any (is_set words) others) (has_repeat others)
            (repeat_by_count at.0 others (omega (arith, number at.0, counts_none (is_set words at.0) none)))
      ]

pub counted_repeat : (os words others : List ℕ) (again : Bool) → AreCounted os again (λ x. count_of x others + cond (is_set words x) 1 0)
    → ((again || list_any (is_set words) others) || has_repeat others) ≡ has_repeat os
counted_repeat os words others true before = sym (before.again refl)
counted_repeat os words others false before =
    same_test _ _ (found_forward os words others (before.number refl)) (found_back os words others (before.number refl))
