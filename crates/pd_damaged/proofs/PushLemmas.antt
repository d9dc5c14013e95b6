-- What is told of the first numbers, with one more.
use Rattle.std.proofs.Common.{◌≡◌, ℕ, zero, suc, ◌+◌, ◌<◌, Bool, true, false, ◌&&◌, ◌||◌, cond, List, [], ◌∷◌, ◌++◌, length, filter, count_by, refl, sym, ◌∙◌, ap, ap₂, subst, arith}
use Rattle.std.specs.List.{AllByRecursion, list_all, list_any, range_with_len}
use Rattle.std.proofs.lemmas.List.Elements.{filter-append}
use Rattle.std.proofs.lemmas.List.{length-append}
use Rattle.std.proofs.lemmas.List.Sums.{length-filter}
use Rattle.std.proofs.lemmas.List.Folds.{list_all-append, list_any-append}
use Rattle.pd_kinds.proofs.ListLemmas.{all_append}
use Rattle.pd_damaged.proofs.KeptLemmas.{range_push}

and_true : (b : Bool) → (b && true) ≡ b
and_true true = refl
and_true false = refl

or_false : (b : Bool) → (b || false) ≡ b
or_false true = refl
or_false false = refl

pub any_push : (p : ℕ → Bool) (n : ℕ) → list_any p (range_with_len 0 (n + 1)) ≡ (list_any p (range_with_len 0 n) || p n)
any_push p n =
    ap (list_any p) (range_push n) ∙ (list_any-append p (range_with_len 0 n) (n ∷ [])
    ∙ ap (λ (b : Bool). list_any p (range_with_len 0 n) || b) (or_false (p n)))

pub all_push : (p : ℕ → Bool) (n : ℕ) → list_all p (range_with_len 0 (n + 1)) ≡ (list_all p (range_with_len 0 n) && p n)
all_push p n =
    ap (list_all p) (range_push n) ∙ (list_all-append p (range_with_len 0 n) (n ∷ [])
    ∙ ap (λ (b : Bool). list_all p (range_with_len 0 n) && b) (and_true (p n)))

-- numbers that pass are counted
counts_more : (p : ℕ → Bool) (xs : List ℕ) (n : ℕ) → count_by p (xs ++ (n ∷ [])) ≡ count_by p xs + cond (p n) 1 0
counts_more p xs n =
    let all = length-filter p (xs ++ (n ∷ [])) in
    let first = length-filter p xs in
    let parts = ap (λ (ys : List ℕ). length ys) (filter-append p xs (n ∷ [])) ∙ length-append (filter p xs) (cond (p n) (n ∷ []) []) in
    let last = number (p n) in
    omega arith
  where
    number : (b : Bool) → length (cond b (n ∷ []) []) ≡ cond b 1 0
    number true = refl
    number false = refl

pub counted_push : (p : ℕ → Bool) (n sum new : ℕ) (passes : Bool) → sum ≡ count_by p (range_with_len 0 n) → passes ≡ p n
    → new ≡ sum + cond passes 1 0 → new ≡ count_by p (range_with_len 0 (n + 1))
counted_push p n sum new passes before is more =
    more
    ∙ (ap (λ (k : ℕ). k + cond passes 1 0) before
    ∙ (ap (λ (b : Bool). count_by p (range_with_len 0 n) + cond b 1 0) is
    ∙ (sym (counts_more p (range_with_len 0 n) n) ∙ ap (count_by p) (sym (range_push n)))))

-- a number more that is kept where it passes
pub listed_push : (p : ℕ → Bool) (n : ℕ) (found new : List ℕ) (passes : Bool) → found ≡ filter p (range_with_len 0 n) → passes ≡ p n
    → new ≡ found ++ cond passes (n ∷ []) [] → new ≡ filter p (range_with_len 0 (n + 1))
listed_push p n found new passes before is more =
    more
    ∙ (ap (λ (xs : List ℕ). xs ++ cond passes (n ∷ []) []) before
    ∙ (ap (λ (b : Bool). filter p (range_with_len 0 n) ++ cond b (n ∷ []) []) is
    ∙ (sym (filter-append p (range_with_len 0 n) (n ∷ [])) ∙ ap (filter p) (sym (range_push n)))))

pub inside_push : (P : ℕ → Type 0) (found new : List ℕ) (n : ℕ) (passes : Bool) → AllByRecursion P found → P n
    → new ≡ found ++ cond passes (n ∷ []) [] → AllByRecursion P new
inside_push P found new n passes all here more = subst (AllByRecursion P) (sym more) (all_append P found (cond passes (n ∷ []) []) all (chosen passes))
  where
    chosen : (b : Bool) → AllByRecursion P (cond b (n ∷ []) [])
    chosen true = (here, tt)
    chosen false = tt

-- all pass, with one more
pub all_more : (p : ℕ → Bool) (n : ℕ) → list_all p (range_with_len 0 n) ≡ true → p n ≡ true → list_all p (range_with_len 0 (n + 1)) ≡ true
all_more p n before here = all_push p n ∙ ap₂ (λ (a b : Bool). a && b) before here

-- a mark by the first ones, with one more
pub marked_push : (p : ℕ → Bool) (n : ℕ) (first other old new here : Bool) → old ≡ (first || (other && list_any p (range_with_len 0 n)))
    → new ≡ (old || (other && here)) → here ≡ p n → new ≡ (first || (other && list_any p (range_with_len 0 (n + 1))))
marked_push p n first other old new here before more is =
    more
    ∙ (ap₂ (λ (a b : Bool). a || (other && b)) before is
    ∙ (parted first other (list_any p (range_with_len 0 n)) (p n) ∙ ap (λ (b : Bool). first || (other && b)) (sym (any_push p n))))
  where
    parted : (a e x y : Bool) → ((a || (e && x)) || (e && y)) ≡ (a || (e && (x || y)))
    parted true e x y = refl
    parted false true x y = refl
    parted false false x y = refl

-- one fails, and not all pass
fails_from : (p : ℕ → Bool) (a n k : ℕ) → k < n → p (a + k) ≡ false → list_all p (range_with_len a n) ≡ false
fails_from p a zero k within is = absurd (omega arith)
fails_from p a (suc n) zero within is =
    let same : a + 0 ≡ a = omega arith in
    ap (λ (b : Bool). b && list_all p (range_with_len (a + 1) n)) (rw same at is)
fails_from p a (suc n) (suc k) within is =
    let same : a + suc k ≡ (a + 1) + k = omega arith in
    ap (λ (b : Bool). p a && b) (fails_from p (a + 1) n k (omega arith) (rw same at is)) ∙ both (p a)
  where
    both : (b : Bool) → (b && false) ≡ false
    both true = refl
    both false = refl

pub one_fails : (p : ℕ → Bool) (n k : ℕ) → k < n → p k ≡ false → list_all p (range_with_len 0 n) ≡ false
one_fails p n k within is = let same : k ≡ 0 + k = omega arith in fails_from p 0 n k within (rw same at is)
