-- Numbers and tests.
use Rattle.std.proofs.Common.{Bool, List, ap, arith, eq-eqb, false, inl, inr, ltb, nat_eq, not, refl, suc, sym, true, zero, ℕ, ◌&&◌, ◌++◌, ◌+◌, ◌<◌, ◌||◌, ◌∙◌, ◌∷◌, ◌≡◌, ◌≢◌, ◌≤◌}
use Rattle.std.proofs.lemmas.Bool.{cases_eq}
use Rattle.std.proofs.lemmas.Bool.Decides.{nat_tests}
use Rattle.std.specs.List.{range_with_len}

-- two tests that lead to each other are one
pub same_test : (a b : Bool) → (a ≡ true → b ≡ true) → (b ≡ true → a ≡ true) → a ≡ b
same_test true b there back = sym (there refl)
same_test false true there back = back refl
same_test false false there back = refl

-- the first of two holds not, where the second does and both don't
pub first_not : (first second : Bool) → second ≡ true → (first && second) ≡ false → first ≡ false
first_not true second is none = absurd (cc)
first_not false second is none = refl

-- so a map line is of a device
pub or_false : (b : Bool) → (b || false) ≡ b
or_false true = refl
or_false false = refl

-- numbers that differ fail the test
pub differ : (a b : ℕ) → a ≢ b → nat_eq a b ≡ false
differ a b h = grind (arith, h)

pub both_more : (c b : ℕ) → nat_eq (suc c) (suc b) ≡ nat_eq c b
both_more c b = elim (cases_eq c b) [
  | inl e ↦ eq-eqb (suc c) (suc b) (omega arith) ∙ sym (eq-eqb c b e)
  | inr ne ↦ differ (suc c) (suc b) (λ e. ne (omega arith)) ∙ sym (differ c b ne)
]

pub both_hold : (is_tree bad inner : Bool) → is_tree ≡ true → bad ≡ false → (is_tree && (not bad && inner)) ≡ inner
both_hold is_tree bad inner is clean = rw (is, clean) refl

-- ranges in a row
pub range_split : (a m n : ℕ) → range_with_len a (m + n) ≡ range_with_len a m ++ range_with_len (a + m) n
range_split a zero n = let e : a + 0 ≡ a = omega arith in let f : 0 + n ≡ n = omega arith in rw (e, f) refl
range_split a (suc m) n =
    let e : a + suc m ≡ (a + 1) + m = omega arith in
    let f : suc m + n ≡ suc (m + n) = omega arith in
    rw (e, f) (ap (λ (rest : List ℕ). a ∷ rest) (range_split (a + 1) m n))

pub use_tells : (n leaves least end left number : ℕ) → not (ltb n leaves) ≡ false → ltb least end ≡ false → ltb left number ≡ false
    → (n < leaves) × ((end ≤ least) × (number ≤ left))
use_tells n leaves least end left number range order mapped = (grind (arith, nat_tests), (grind (arith, nat_tests), grind (arith, nat_tests)))

pub add_none : (i : ℕ) → i ≡ i + 0
add_none i = omega arith

pub add_next : (i j : ℕ) → i + 1 + j ≡ i + (j + 1)
add_next i j = omega arith
