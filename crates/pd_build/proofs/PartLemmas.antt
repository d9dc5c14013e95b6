-- Lists cut into parts.
use Rattle.std.proofs.Common.{◌≡◌, ℕ, zero, suc, ◌+◌, ◌-◌, ◌/◌, List, [], ◌∷◌, ◌++◌, length, take, drop, refl, sym, ◌∙◌, ap, ap₂, arith}
use Rattle.std.specs.Prelude.{sum}
use Rattle.std.proofs.Math.Seq.{take-append_seam, drop-append_seam}
use Rattle.std.proofs.lemmas.List.{length-drop}
use Rattle.std.proofs.lemmas.List.Sums.{sum_by-cons}
use Rattle.pd_laid.specs.Laid.{even_parts}
use Rattle.pd_laid.proofs.LaidLemmas.{first_of}
use Rattle.pd_build.specs.Tree.{even_sizes, cut}

pub length-even : (k n : ℕ) → length (even_sizes k n) ≡ k
unfolding even_sizes
length-even zero n = refl
length-even (suc k) n = ap suc (length-even k (n - (n + k) / suc k))

pub sum-even : (k n : ℕ) → sum (even_sizes (suc k) n) ≡ n
unfolding even_sizes
sum-even zero n =
    let c = (n + 0) / 1 in
    let first = first_of n 0 in
    sum_by-cons (λ x. x) c [] ∙ omega (arith, first.enough, first.within)
sum-even (suc k) n =
    let c = (n + suc k) / suc (suc k) in
    let first = first_of n (suc k) in
    let rest = sum-even k (n - c) in
    sum_by-cons (λ x. x) c (even_sizes (suc k) (n - c)) ∙ omega (arith, first.within, rest)

pub sum-any : (k n : ℕ) → (k ≡ 0 → n ≡ 0) → sum (even_sizes k n) ≡ n
unfolding even_sizes
sum-any zero n none = sym (none refl)
sum-any (suc k) n none = sum-even k n

pub spread_is_cut : {X : Type 0} → (k : ℕ) (xs : List X) → even_parts k xs ≡ cut (even_sizes k (length xs)) xs
unfolding even_parts cut even_sizes
spread_is_cut zero xs = refl
spread_is_cut {X} (suc k) xs =
    let c = (length xs + k) / suc k in
    ap (λ (rest : List (List X)). take c xs ∷ rest)
    (spread_is_cut k (drop c xs) ∙ ap (λ (n : ℕ). cut (even_sizes k n) (drop c xs)) (length-drop c xs))

-- a part that is full
pub cut_full : {X : Type 0} → (c : ℕ) (sizes : List ℕ) (part rest : List X) → length part ≡ c
    → cut (c ∷ sizes) (part ++ rest) ≡ part ∷ cut sizes rest
unfolding cut
cut_full {X} c sizes part rest full =
    rw (← full)
    (ap₂ (λ (front : List X) (back : List X). front ∷ cut sizes back) (take-append_seam part rest) (drop-append_seam part rest))

-- how large the first part is
pub first_size : (k n : ℕ) → even_sizes (suc k) n ≡ (n + k) / suc k ∷ even_sizes k (n - (n + k) / suc k)
unfolding even_sizes
first_size k n = refl
