-- The data blocks of shared leaves, counted once for each use but up to three times.
use Rattle.std.proofs.Common.{◌≡◌, ℕ, zero, suc, ◌+◌, ◌*◌, ◌<◌, Bool, true, false, cond, eqb, get_or, min, List, [], ◌∷◌, ◌++◌, refl, ap, sym, ◌∙◌, arith, add-one, append_assoc, zero-add}
use Rattle.std.specs.Prelude.{sum_by}
use Rattle.std.proofs.lemmas.Bool.Decides.{nat_tests}
use Rattle.std.proofs.lemmas.List.{append-nil}
use Rattle.std.proofs.lemmas.List.Sums.{sum_by-append, sum_by-cons}
use Rattle.pd_grammar.proofs.NeedLemmas.{count_of}
use Rattle.pd_restore.specs.ShapeNeed.{copies}

pub often_append : (b : ℕ) (xs ys : List ℕ) → count_of b (xs ++ ys) ≡ count_of b xs + count_of b ys
often_append b xs ys = sum_by-append (λ r. cond (eqb r b) 1 0) xs ys

-- no copy, and a copy more
pub copies_none : (before blocks : List ℕ) → before ++ copies 0 blocks ≡ before
unfolding copies
copies_none before blocks = append-nil before

pub copies_more : (before blocks : List ℕ) (n : ℕ) → (before ++ copies n blocks) ++ blocks ≡ before ++ copies (n + 1) blocks
unfolding copies
copies_more before blocks n = rw add-one (append_assoc before (copies n blocks) blocks)

pub copies_often : (b n : ℕ) (blocks : List ℕ) → count_of b (copies n blocks) ≡ n * count_of b blocks
unfolding copies
copies_often b zero blocks = omega arith
copies_often b (suc n) blocks = omega (arith, often_append b (copies n blocks) blocks, copies_often b n blocks)

-- some numbers, each so many times, by their places from a place on
abbrev pub weighted : (ℕ → ℕ) → ℕ → List ℕ → ℕ
weighted times i [] = 0
weighted times i (c ∷ cs) = times i * c + weighted times (suc i) cs

weighted_none : (i : ℕ) (cs : List ℕ) → weighted (λ k. 0) i cs ≡ 0
weighted_none i [] = refl
weighted_none i (c ∷ cs) = omega (arith, weighted_none (suc i) cs)

weighted_more : (first later both : ℕ → ℕ) → ((k : ℕ) → both k ≡ first k + later k) → (i : ℕ) (cs : List ℕ) → weighted both i cs ≡ weighted first i cs + weighted later i cs
weighted_more first later both is i [] = refl
weighted_more first later both is i (c ∷ cs) =
    let here : both i * c ≡ (first i + later i) * c = ap (λ n. n * c) (is i) in
    omega (arith, here, weighted_more first later both is (suc i) cs)

-- one of them alone
weighted_past : (n i : ℕ) (cs : List ℕ) → n < i → weighted (λ k. cond (eqb n k) 1 0) i cs ≡ 0
weighted_past n i [] past = refl
weighted_past n i (c ∷ cs) past =
    let other : eqb n i ≡ false = grind (arith, nat_tests) in
    let none : cond (eqb n i) 1 0 * c ≡ 0 * c = ap (λ (t : Bool). cond t 1 0 * c) other in
    omega (arith, none, weighted_past n (suc i) cs (omega arith))

weighted_at : (i k : ℕ) (cs : List ℕ) → weighted (λ m. cond (eqb (i + k) m) 1 0) i cs ≡ get_or cs k 0
weighted_at i k [] = refl
weighted_at i zero (c ∷ cs) =
    let same : eqb (i + 0) i ≡ true = grind (arith, nat_tests) in
    let one : cond (eqb (i + 0) i) 1 0 * c ≡ 1 * c = ap (λ (t : Bool). cond t 1 0 * c) same in
    omega (arith, one, weighted_past (i + 0) (suc i) cs (omega arith))
weighted_at i (suc k) (c ∷ cs) =
    let other : eqb (i + suc k) i ≡ false = grind (arith, nat_tests) in
    let none : cond (eqb (i + suc k) i) 1 0 * c ≡ 0 * c = ap (λ (t : Bool). cond t 1 0 * c) other in
    let next : i + suc k ≡ suc i + k = omega arith in
    let later : weighted (λ m. cond (eqb (i + suc k) m) 1 0) (suc i) cs ≡ get_or cs k 0 =
    ap (λ (n : ℕ). weighted (λ m. cond (eqb n m) 1 0) (suc i) cs) next ∙ weighted_at (suc i) k cs in
    omega (arith, none, later)

-- what the places in a list name, added up
pub uses_weighted : (f : ℕ → ℕ) (cs : List ℕ) → ((n : ℕ) → f n ≡ get_or cs n 0) → (uses : List ℕ) → sum_by f uses ≡ weighted (λ k. count_of k uses) 0 cs
uses_weighted f cs is [] = sym (weighted_none 0 cs)
uses_weighted f cs is (n ∷ uses) =
    let alone : weighted (λ k. cond (eqb n k) 1 0) 0 cs ≡ get_or cs n 0 =
    ap (λ (m : ℕ). weighted (λ k. cond (eqb m k) 1 0) 0 cs) (sym (zero-add n)) ∙ weighted_at 0 n cs in
    let both = weighted_more (λ k. cond (eqb n k) 1 0) (λ k. count_of k uses) (λ k. count_of k (n ∷ uses)) (λ k. sum_by-cons (λ r. cond (eqb r k) 1 0) n uses) 0 cs in
    omega (arith, sum_by-cons f n uses, is n, alone, both, uses_weighted f cs is uses)

-- up to three, three times are as good as more
three_alike : (n c : ℕ) → min (min n 3 * c) 3 ≡ min (n * c) 3
three_alike n zero = omega arith
three_alike zero (suc c) = omega arith
three_alike (suc zero) (suc c) = omega arith
three_alike (suc (suc zero)) (suc c) = omega arith
three_alike (suc (suc (suc n))) (suc c) =
    let most : min (suc (suc (suc n))) 3 ≡ 3 = omega arith in rw most (omega arith)

pub sum_alike : (a b c d : ℕ) → min a 3 ≡ min c 3 → min b 3 ≡ min d 3 → min (a + b) 3 ≡ min (c + d) 3
sum_alike a b c d first later = omega arith

pub weighted_alike : (times uses : ℕ → ℕ) → ((k : ℕ) → times k ≡ min (uses k) 3) → (i : ℕ) (cs : List ℕ) → min (weighted times i cs) 3 ≡ min (weighted uses i cs) 3
weighted_alike times uses is i [] = refl
weighted_alike times uses is i (c ∷ cs) =
    sum_alike (times i * c) (weighted times (suc i) cs) (uses i * c) (weighted uses (suc i) cs) (ap (λ n. min (n * c) 3) (is i) ∙ three_alike (uses i) c) (weighted_alike times uses is (suc i) cs)
