-- Lists of which a report keeps the front.
use denote.Enum.Declared.{tag_of}
use Rattle.std.proofs.Common.{◌≡◌, ℕ, zero, suc, ◌+◌, ◌<◌, ◌≤◌, Bool, true, false, cond, List, [], ◌∷◌, ◌++◌, length, take, set, refl, ap, sym, ◌∙◌, arith, add-one, ◌≢◌, ◌^◌, ◌*◌, ◌%◌, max, ◌||◌, get_or, nat_eq, lit<, bit_or, zero-add, eq-eqb, inl, inr}
use Rattle.std.specs.List.{count_by}
use Rattle.std.proofs.Math.Seq.{take-suc-set}
use Rattle.std.proofs.lemmas.List.{take-append-le, take_all, length-take-le, length-append, get_or-map}
use Rattle.std.proofs.lemmas.List.Sums.{sum_by_push}
use Rattle.std.specs.Int.{bit_at, w32}
use Rattle.std.proofs.lemmas.Nat.{one_shl, or_lt}
use Rattle.std.proofs.lemmas.Nat.Bits.{bit_at_set_same, bit_at_set_other, same_from_bits_below, bit_at-zero, bit_at-lt, bit_at_or}
use Rattle.std.proofs.lemmas.List.FromFn.{get_or-range_with_len}
use Rattle.std.proofs.lemmas.Bool.{cases_eq}
use Rattle.std.proofs.Math.Bool.{or-true, or-false}
use Rattle.std.proofs.Math.Pow.{pow-lt}
use Rattle.pd_kinds.specs.declared.rule.Rule.{Rule}
use Rattle.pd_kinds.specs.contracts.rule.Rule.{the_type}
use Rattle.pd_kinds.specs.Rule.{number_of, all_rules}
use Rattle.pd_kinds.specs.declared.rule.Rule.TheVariants as r

-- a write at the end of the kept part, short of the limit
pub kept_below : {X : Type 0} → (limit k : ℕ) (xs : List X) (x : X) → length xs ≡ limit → k < limit
    → take (k + 1) (set xs k x) ≡ take limit (take k xs ++ x ∷ [])
kept_below {X} limit k xs x len within =
    let front : length (take k xs) ≡ k = length-take-le k xs (omega arith) in
    let short : length (take k xs ++ x ∷ []) ≤ limit = rw (length-append (take k xs) (x ∷ [])) (omega arith) in
    rw (add-one k, take-suc-set xs k x (omega arith)) (sym (take_all limit (take k xs ++ x ∷ []) short))

-- at the limit nothing is kept
pub kept_full : {X : Type 0} → (limit k : ℕ) (xs : List X) (x : X) → length xs ≡ limit → k ≡ limit
    → take k xs ≡ take limit (take k xs ++ x ∷ [])
kept_full {X} limit k xs x len full =
    let whole : take k xs ≡ xs = take_all k xs (omega arith) in
    rw whole (sym (take-append-le limit xs (x ∷ []) (omega arith) ∙ take_all limit xs (omega arith)))

-- the front of a list that goes on is that of its front that goes on
pub front_of_front : {X : Type 0} → (limit : ℕ) (xs ys : List X) → take limit (take limit xs ++ ys) ≡ take limit (xs ++ ys)
front_of_front {X} zero xs ys = refl
front_of_front {X} (suc n) [] ys = refl
front_of_front {X} (suc n) (x ∷ xs) ys = ap (λ (rest : List X). x ∷ rest) (front_of_front n xs ys)

-- one more at the end of what is counted
pub count_more : {X : Type 0} → (p : X → Bool) (xs : List X) (x : X) → count_by p (xs ++ x ∷ []) ≡ cond (p x) (count_by p xs + 1) (count_by p xs)
count_more {X} p xs x = sum_by_push (λ y. cond (p y) 1 0) xs x ∙ one_if (p x)
  where
    one_if : (here : Bool) → count_by p xs + cond here 1 0 ≡ cond here (count_by p xs + 1) (count_by p xs)
    one_if true = refl
    one_if false = omega arith

-- The bits of a set of rules, one by one.

-- each rule's number is one of 22
pub number_below : (rule : Rule) → number_of rule < 22
number_below r.Checksum = lit< tt
number_below _ = lit< tt

-- the number that the code has for a rule
pub tag_is : (rule : Rule) → tag_of the_type rule ≡ number_of rule
tag_is r.Checksum = refl
tag_is _ = refl

-- each number below 22 is a rule's
pub rule_numbered : (k : ℕ) → k < 22 → (rule : Rule) × (number_of rule ≡ k)
unfolding all_rules
rule_numbered k h = (
  get_or all_rules k r.Checksum,
  sym (get_or-map number_of all_rules k r.Checksum 0 h) ∙ get_or-range_with_len 0 22 k 0 h ∙ zero-add k,
)

-- a set with one bit more is within its width
pub with_bit_below : (bits n : ℕ) → bits < 2 ^ 22 → n < 22 → bit_or bits (1 * 2 ^ n % 2 ^ 32) < 2 ^ 22
with_bit_below bits n small within =
    let e = one_shl n 32 (omega arith) in
    rw e (or_lt 22 bits (2 ^ n) small (pow-lt within))

-- its bits are the old ones and the new one
pub bit_of_with : (bits n k : ℕ) → n < 22 → k < 22
    → nat_eq (bit_at (bit_or bits (1 * 2 ^ n % 2 ^ 32)) k) 1 ≡ (nat_eq (bit_at bits k) 1 || nat_eq n k)
bit_of_with bits n k within small = elim (cases_eq k n) [
  | inl same ↦
      rw same (rw (bit_at_set_same w32 bits n (omega arith), eq-eqb n n refl) (sym (or-true (nat_eq (bit_at bits n) 1))))
  | inr other ↦
      let e : nat_eq n k ≡ false = grind (arith, other) in
      rw (bit_at_set_other w32 bits n (omega arith) k other, e) (sym (or-false (nat_eq (bit_at bits k) 1)))
]

-- of two bits one is set where the greater is
pub greater_bit : (a b : ℕ) → a < 2 → b < 2 → nat_eq (max a b) 1 ≡ (nat_eq a 1 || nat_eq b 1)
greater_bit zero zero small within = refl
greater_bit zero (suc zero) small within = refl
greater_bit (suc zero) zero small within = refl
greater_bit (suc zero) (suc zero) small within = refl
greater_bit (suc (suc a)) b small within = absurd (omega arith)
greater_bit zero (suc (suc b)) small within = absurd (omega arith)
greater_bit (suc zero) (suc (suc b)) small within = absurd (omega arith)

-- the bits of two sets
pub bit_of_both : (a b k : ℕ) → nat_eq (bit_at (bit_or a b) k) 1 ≡ (nat_eq (bit_at a k) 1 || nat_eq (bit_at b k) 1)
bit_of_both a b k = rw (bit_at_or a b k) (greater_bit (bit_at a k) (bit_at b k) (bit_at-lt a k) (bit_at-lt b k))

-- a set of no bits is 0
pub empty_from_bits : (bits : ℕ) → bits < 2 ^ 22 → ((k : ℕ) → k < 22 → nat_eq (bit_at bits k) 1 ≡ false) → bits ≡ 0
empty_from_bits bits small none =
    same_from_bits_below 22 bits 0 small (lit< tt)
    (λ k h. let low = bit_at-lt bits k in
    let not_one : bit_at bits k ≢ 1 = λ one. let e : true ≡ false = sym (eq-eqb (bit_at bits k) 1 one) ∙ none k h in cc in
    let none_of_zero = bit_at-zero k in
    omega arith)
