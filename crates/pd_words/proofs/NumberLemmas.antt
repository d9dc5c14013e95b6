-- The number that a word is in decimal, and the region that it is.
use Rattle.std.proofs.Common.{◌≡◌, ◌≢◌, inl, inr, ℕ, suc, ◌+◌, ◌<◌, ◌≤◌, ◌^◌, if◌then◌else◌, Bool, true, false, ◌&&◌, not, nat_eq, nat_lt, List, [], ◌∷◌, ◌++◌, length, get_or, take, Option, Some, None, Result, Ok, Err, decimal, refl, ap, ◌∙◌, arith}
use Rattle.std.specs.List.{prefix_len, take_while}
use Rattle.std.specs.Option.{option_and_then}
use Rattle.std.specs.Str.{bytes_eq}
use Rattle.std.specs.Str.Parse.{digits_value, ParsesUnsigned}
use Rattle.std.proofs.Math.Seq.{drop-append_seam, drop-length}
use Rattle.std.proofs.lemmas.Bool.{cases_Bool, le-ltb, lt-ltb, ltb-true, ne_eqb}
use Rattle.std.proofs.lemmas.Bool.Decides.{nat_tests}
use Rattle.std.proofs.lemmas.Fmt.{decimal_is_IsNumeral, parse-decimal}
use Rattle.std.proofs.lemmas.Slice.Eq.{bytes_eq-Decides}
use Rattle.pd_answers.specs.Words.{Region, behind_points, number_below, region_of}
use Rattle.pd_words.specs.Items.{region_from}

-- a word that is what a number prints as
pub printed : (n : ℕ) (word : List ℕ) → n < 2 ^ 64 → word ≡ decimal n → number_below (2 ^ 64) word ≡ Some n
unfolding number_below
printed n word fits same =
    let value : digits_value 10 word ≡ n = ap (digits_value 10) same ∙ (decimal_is_IsNumeral n fits).1 in
    let below : nat_lt n (2 ^ 64) ≡ true = grind (arith, nat_tests) in
    rw (value, below, (bytes_eq-Decides word (decimal n)).1 same) refl

-- a word that is no number's
pub not_printed : (word : List ℕ) → ((n : ℕ) → n < 2 ^ 64 → word ≡ decimal n → ⊥) → number_below (2 ^ 64) word ≡ None
unfolding number_below
not_printed word none =
    let n = digits_value 10 word in
    elim (cases_Bool (nat_lt n (2 ^ 64))) [
      | inr e ↦ rw e refl
      | inl e ↦ elim (cases_Bool (bytes_eq word (decimal n))) [
        | inr differ ↦ rw (e, differ) refl
        | inl same ↦ let low : n < 2 ^ 64 = grind (arith, nat_tests) in absurd (none n low ((bytes_eq-Decides word (decimal n)).0 same))
      ]
    ]

-- a word that isn't read as a number
pub unread_number : {E : Type 0} → (word : List ℕ) (why : E) → ParsesUnsigned 64 10 word (Err why) → number_below (2 ^ 64) word ≡ None
unread_number {E} word why parses = not_printed word (λ n fits same. err_ok n why (parse-decimal {E = E} 64 n word (Err why) fits fits same parses))
  where
    err_ok : (n : ℕ) (e : E) → ◌≡◌ {A = Result ℕ E} (Err e) (Ok n) → ⊥
    err_ok n e same = cc

-- the number as which a word is read that a number prints as
pub read_as_one : (n : ℕ) (word : List ℕ) → ParsesUnsigned {E = ℕ} 64 10 word (Ok n) → (m : ℕ) → m < 2 ^ 64 → word ≡ decimal m → n ≡ m
read_as_one n word parses m fits same = ok_ok n m (parse-decimal {E = ℕ} 64 m word (Ok n) fits fits same parses)
  where
    ok_ok : (a b : ℕ) → ◌≡◌ {A = Result ℕ ℕ} (Ok a) (Ok b) → a ≡ b
    ok_ok a b same = cc

-- a number that passes two tests, and one that doesn't
picked : {n v : ℕ} (a b : Bool) → Some n ≡ (if a && b then Some v else None) → (a ≡ true) × (b ≡ true) × (n ≡ v)
picked true true is = (refl, refl, cc)
picked true false is = absurd cc
picked false b is = absurd cc

not_picked : (v : ℕ) (a b c : Bool) → None ≡ (if a && b then Some v else None) → (c ≡ true → a ≡ true) → None ≡ (if c && b then Some v else None)
not_picked v a b false none follows = refl
not_picked v a false true none follows = refl
not_picked v a true true none follows = absurd (some (rw (follows refl) at none))
  where
    some : None ≡ Some v → ⊥
    some e = cc

-- below a lower bound
pub none_below : (bound : ℕ) (word : List ℕ) → bound ≤ 2 ^ 64 → None ≡ number_below (2 ^ 64) word → None ≡ number_below bound word
unfolding number_below
none_below bound word small none =
    let n = digits_value 10 word in
    not_picked n (nat_lt n (2 ^ 64)) (bytes_eq word (decimal n)) (nat_lt n bound) none (λ below. lt-ltb n (2 ^ 64) (omega (arith, ltb-true n bound below)))

pub one_below : (bound n : ℕ) (word : List ℕ) → n < bound → Some n ≡ number_below (2 ^ 64) word → Some n ≡ number_below bound word
unfolding number_below
one_below bound n word low is =
    let v = digits_value 10 word in
    let found = picked {v = v} (nat_lt v (2 ^ 64)) (bytes_eq word (decimal v)) is in
    rw (lt-ltb v bound (omega (arith, found.2)), found.1) (ap Some found.2)

pub one_above : (bound n : ℕ) (word : List ℕ) → bound ≤ n → Some n ≡ number_below (2 ^ 64) word → None ≡ number_below bound word
unfolding number_below
one_above bound n word high is =
    let v = digits_value 10 word in
    let found = picked {v = v} (nat_lt v (2 ^ 64)) (bytes_eq word (decimal v)) is in
    rw (le-ltb v bound (omega (arith, found.2))) refl

-- what stands before the first point, and behind it
abbrev is_other : ℕ → Bool
is_other c = not (nat_eq c 46)

abbrev HasNone : List ℕ → Type 0
HasNone word = (i : ℕ) → i < length word → get_or word i 0 ≢ 46

take_next : (n c : ℕ) (xs : List ℕ) → take (1 + n) (c ∷ xs) ≡ c ∷ take n xs
take_next n c xs = let next : 1 + n ≡ suc n = omega arith in rw next refl

before_point : (word rest : List ℕ) → HasNone word → take_while is_other (word ++ (46 ∷ rest)) ≡ word
before_point [] rest none = refl
before_point (c ∷ word) rest none =
    rw (ne_eqb c 46 (none 0 (omega arith))) (take_next (prefix_len is_other (word ++ (46 ∷ rest))) c (word ++ (46 ∷ rest)) ∙ ap (λ (xs : List ℕ). c ∷ xs) (before_point word rest (λ i within. none (suc i) (omega arith))))

without_point : (word : List ℕ) → HasNone word → take_while is_other word ≡ word
without_point [] none = refl
without_point (c ∷ word) none =
    rw (ne_eqb c 46 (none 0 (omega arith))) (take_next (prefix_len is_other word) c word ∙ ap (λ (xs : List ℕ). c ∷ xs) (without_point word (λ i within. none (suc i) (omega arith))))

-- a number, and then nothing
nothing : (o : Option ℕ) → None ≡ option_and_then {U = Region} (λ first. None) o
nothing None = refl
nothing (Some x) = refl

-- no region without a point
pub no_point : (word : List ℕ) → HasNone word → None ≡ region_of word
unfolding region_of
no_point word none = rw (without_point word none, drop-length word) (nothing (number_below (2 ^ 64) word))

-- nor with one alone
behind_one : (rest : List ℕ) → ((other : List ℕ) → rest ≢ 46 ∷ other) → behind_points (46 ∷ rest) ≡ None
behind_one [] none = refl
behind_one (c ∷ rest) none = rw (ne_eqb c 46 (λ same. none rest (ap (λ (d : ℕ). d ∷ rest) same))) refl

pub one_point : (begin rest word : List ℕ) → word ≡ begin ++ (46 ∷ rest) → HasNone begin → ((other : List ℕ) → rest ≢ 46 ∷ other) → None ≡ region_of word
unfolding region_of
one_point begin rest word is none other =
    rw (is, before_point begin rest none, drop-append_seam begin (46 ∷ rest), behind_one rest other) (nothing (number_below (2 ^ 64) begin))

-- a region has two
pub two_points : (begin rest end word : List ℕ) → word ≡ begin ++ (46 ∷ rest) → HasNone begin → rest ≡ 46 ∷ end → region_from begin end ≡ region_of word
unfolding region_of
two_points begin rest end word is none follows = rw (is, before_point begin rest none, drop-append_seam begin (46 ∷ rest), follows) refl
