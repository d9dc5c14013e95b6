-- How many data blocks stand three times or more once a row of blocks is counted, too.
use Rattle.std.proofs.Common.{◌≡◌, ◌≢◌, inl, inr, ℕ, zero, suc, ◌+◌, ◌<◌, ◌≤◌, true, false, cond, leb, eqb, List, ◌∷◌, ◌++◌, refl, sym, ◌∙◌, ap, arith}
use Rattle.std.specs.List.{count_by, range_with_len}
use Rattle.std.proofs.lemmas.Bool.{cases_eq}
use Rattle.std.proofs.lemmas.Bool.Decides.{nat_tests}
use Rattle.std.proofs.lemmas.List.Sums.{sum_by-cons, sum_by-append}
use Rattle.pd_grammar.specs.Need.{overflows_in}
use Rattle.pd_devices.proofs.CountLemmas.{one_apart, passing, passing-cons}

-- how often a block stands in a list
abbrev times : List ℕ → ℕ → ℕ
times xs b = count_by (λ r. eqb r b) xs

-- a list with one block more has it once more, and no other block
here_more : (xs : List ℕ) (b : ℕ) → times (b ∷ xs) b ≡ times xs b + 1
here_more xs b =
    let same : eqb b b ≡ true = grind (arith, nat_tests) in
    sum_by-cons (λ r. cond {A = ℕ} (eqb r b) 1 0) b xs ∙ (rw same (omega arith))

there_same : (xs : List ℕ) (b d : ℕ) → d ≢ b → times (b ∷ xs) d ≡ times xs d
there_same xs b d apart =
    let other : eqb b d ≡ false = grind (arith, nat_tests, apart) in
    sum_by-cons (λ r. cond {A = ℕ} (eqb r d) 1 0) b xs ∙ (rw other (omega arith))

-- a third count needs one place more
third : (c x y : ℕ) → x + cond (leb 3 c) 1 0 ≡ y + cond (leb 3 (c + 1)) 1 0 → x ≡ y + cond (eqb c 2) 1 0
third c x y e = elim (cases_eq c 2) [
  | inl two ↦ grind (arith, nat_tests, e, two)
  | inr other ↦ grind (arith, nat_tests, e, other)
]

one_more : (b n : ℕ) (xs : List ℕ) → b < n → overflows_in (b ∷ xs) n ≡ overflows_in xs n + cond (eqb (times xs b) 2) 1 0
unfolding overflows_in
one_more b n xs within =
    third (times xs b) (passing (λ d. leb 3 (times (b ∷ xs) d)) 0 n) (passing (λ d. leb 3 (times xs d)) 0 n)
    (one_apart (λ d. leb 3 (times xs d)) (λ d. leb 3 (times (b ∷ xs) d)) b 0 n (λ d other. ap (leb 3) (sym (there_same xs b d other))) (omega arith) (omega arith)
    ∙ ap (λ (k : ℕ). passing (λ d. leb 3 (times xs d)) 0 n + cond (leb 3 k) 1 0) (here_more xs b))

-- a block below a row isn't in it
below_row : (a n c : ℕ) → c < a → times (range_with_len a n) c ≡ 0
below_row a zero c below = refl
below_row a (suc n) c below =
    let rest = below_row (a + 1) n c (omega arith) in
    let other : eqb a c ≡ false = grind (arith, nat_tests, below) in
    sum_by-cons (λ r. cond {A = ℕ} (eqb r c) 1 0) a (range_with_len (a + 1) n) ∙ (rw other (omega (arith, rest)))

-- each block of the row that stood twice needs one place more
pub overflows_row : (counted : List ℕ) (a n blocks : ℕ) → a + n ≤ blocks
    → overflows_in (range_with_len a n ++ counted) blocks ≡ overflows_in counted blocks + count_by (λ d. eqb (count_by (λ r. eqb r d) counted) 2) (range_with_len a n)
overflows_row counted a zero blocks within = omega arith
overflows_row counted a (suc n) blocks within =
    let behind = range_with_len (a + 1) n in
    let rest = overflows_row counted (a + 1) n blocks (omega arith) in
    let step = one_more a blocks (behind ++ counted) (omega arith) in
    let both = sum_by-append (λ r. cond {A = ℕ} (eqb r a) 1 0) behind counted in
    let alone : times (behind ++ counted) a ≡ times counted a = omega (arith, both, below_row (a + 1) n a (omega arith)) in
    let same : cond {A = ℕ} (eqb (times (behind ++ counted) a) 2) 1 0 ≡ cond (eqb (times counted a) 2) 1 0 = ap {B = ℕ} (λ (k : ℕ). cond (eqb k 2) 1 0) alone in
    let first = passing-cons (λ d. eqb (times counted d) 2) a n in
    omega (arith, rest, step, same, first)
