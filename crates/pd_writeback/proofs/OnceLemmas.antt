-- In a cache without faults no origin comes twice, so at most one cached block stands for a block of the origin.
use Rattle.std.proofs.Common.{◌≡◌, inl, inr, ℕ, ◌+◌, ◌*◌, ◌<◌, ◌≤◌, Bool, true, false, cond, nat_eq, ◌&&◌, List, [], ◌∷◌, filter, map, refl, sym, ap, ◌∙◌, arith}
use Rattle.std.specs.List.{count_by, list_any}
use Rattle.std.specs.Prelude.{nat_le, nat_lt}
use Rattle.std.proofs.Math.Nat.{mul-le-mul_right}
use Rattle.std.proofs.lemmas.Bool.{and_parts, cases_lt, eq-eqb, leb-true, ltb-true, or_parts, true≢false}
use Rattle.std.proofs.lemmas.List.Sums.{sum_by-cons}
use Rattle.pd_kinds.specs.Meaning.{CacheEntry, CacheMeaning}
use Rattle.pd_kinds.specs.Whole.{has_repeat}
use Rattle.pd_answers.specs.Writebacks.{cached_block, hot_blocks, is_hot, stands_for}
use Rattle.pd_writeback.specs.Copied.{IsEachOnce}

-- whether a block of the origin belongs to this one
abbrev covers : ℕ → ℕ → ℕ → Bool
covers k b origin = nat_le (origin * k) b && nat_lt b ((origin + 1) * k)

not_less : (k b x y : ℕ) → covers k b x ≡ true → covers k b y ≡ true → x < y → ⊥
not_less k b x y first second less =
    let high = ltb-true b ((x + 1) * k) (and_parts _ _ first).1 in
    let low = leb-true (y * k) b (and_parts _ _ second).0 in
    let more = mul-le-mul_right k (let next : x + 1 ≤ y = omega arith in next) in
    absurd (omega arith)

same_covers : (k b x y : ℕ) → covers k b x ≡ true → covers k b y ≡ true → x ≡ y
same_covers k b x y first second =
    elim (cases_lt x y) [
      | inl less ↦ absurd (not_less k b x y first second less)
      | inr more ↦ elim (cases_lt y x) [ inl less ↦ absurd (not_less k b y x second first less) | inr less ↦ omega arith ]
    ]

-- counting goes element by element
count_cons : {X : Type 0} → (p : X → Bool) (x : X) (xs : List X) → count_by p (x ∷ xs) ≡ cond (p x) 1 0 + count_by p xs
count_cons p x xs = sum_by-cons (λ y. cond (p y) 1 0) x xs

counted : {X : Type 0} → (p : X → Bool) (x : X) (xs : List X) (t : Bool) → p x ≡ t → count_by p (x ∷ xs) ≡ cond t 1 0 + count_by p xs
counted p x xs t is = count_cons p x xs ∙ ap (λ (t : Bool). cond t 1 0 + count_by p xs) is

-- no other one covers the block
none_covers : (k b x : ℕ) (xs : List ℕ) → covers k b x ≡ true → list_any (λ y. nat_eq y x) xs ≡ false → count_by (covers k b) xs ≡ 0
none_covers k b x [] is none = refl
none_covers k b x (y ∷ xs) is none =
    let parts = or_parts (nat_eq y x) (list_any (λ y. nat_eq y x) xs) none in
    by_first (covers k b y) refl (none_covers k b x xs is parts.1)
  where
    by_first : (t : Bool) → covers k b y ≡ t → count_by (covers k b) xs ≡ 0 → count_by (covers k b) (y ∷ xs) ≡ 0
    by_first true first rest =
        let same : y ≡ x = same_covers k b y x first is in
        absurd (true≢false (sym (eq-eqb y x same) ∙ (or_parts (nat_eq y x) (list_any (λ y. nat_eq y x) xs) none).0))
    by_first false first rest = counted (covers k b) y xs false first ∙ ap (λ (n : ℕ). 0 + n) rest

few_cover : (k b : ℕ) (xs : List ℕ) → has_repeat xs ≡ false → count_by (covers k b) xs ≤ 1
unfolding has_repeat
few_cover k b [] none = omega arith
few_cover k b (x ∷ xs) none =
    let parts = or_parts (list_any (λ y. nat_eq y x) xs) (has_repeat xs) none in
    by_first (covers k b x) refl parts.0 (few_cover k b xs parts.1)
  where
    at_most : (n m : ℕ) → n ≡ m → m ≤ 1 → n ≤ 1
    at_most n m same few = omega arith

    by_first : (t : Bool) → covers k b x ≡ t → list_any (λ y. nat_eq y x) xs ≡ false → count_by (covers k b) xs ≤ 1 → count_by (covers k b) (x ∷ xs) ≤ 1
    by_first true first apart rest = at_most (count_by (covers k b) (x ∷ xs)) (1 + 0) (counted (covers k b) x xs true first ∙ ap (λ (n : ℕ). 1 + n) (none_covers k b x xs first apart)) (omega arith)
    by_first false first apart rest = at_most (count_by (covers k b) (x ∷ xs)) (0 + count_by (covers k b) xs) (counted (covers k b) x xs false first) (let few = rest in below few)
      where
        below : {n : ℕ} → n ≤ 1 → 0 + n ≤ 1
        below few = omega arith

-- what is left of a list has no more
fewer : {X Y : Type 0} → (p : Y → Bool) (f : X → Y) (q : X → Bool) (xs : List X) → count_by p (map f (filter q xs)) ≤ count_by (λ x. p (f x)) xs
fewer p f q [] = omega arith
fewer {X} {Y} p f q (x ∷ xs) = by_first (q x) (p (f x)) refl (fewer p f q xs)
  where
    le : {a b c d : ℕ} → a ≡ c → b ≡ d → c ≤ d → a ≤ b
    le first second less = omega arith

    by_first : (t u : Bool) → p (f x) ≡ u → count_by p (map f (filter q xs)) ≤ count_by (λ x. p (f x)) xs
        → count_by p (map f (cond t (x ∷ filter q xs) (filter q xs))) ≤ count_by (λ x. p (f x)) (x ∷ xs)
    by_first true u is rest = le (counted p (f x) (map f (filter q xs)) u is) (counted (λ x. p (f x)) x xs u is) (more u rest)
      where
        more : (u : Bool) {n m : ℕ} → n ≤ m → cond u 1 0 + n ≤ cond u 1 0 + m
        more true less = omega arith
        more false less = omega arith
    by_first false u is rest = le {a = count_by p (map f (filter q xs))} refl (counted (λ x. p (f x)) x xs u is) (more u rest)
      where
        more : (u : Bool) {n m : ℕ} → n ≤ m → n ≤ cond u 1 0 + m
        more true less = omega arith
        more false less = omega arith

count_mapped : {X Y : Type 0} → (p : Y → Bool) (f : X → Y) (xs : List X) → count_by p (map f xs) ≡ count_by (λ x. p (f x)) xs
count_mapped p f [] = refl
count_mapped p f (x ∷ xs) = count_cons p (f x) (map f xs) ∙ (ap (λ (n : ℕ). cond (p (f x)) 1 0 + n) (count_mapped p f xs) ∙ sym (count_cons (λ x. p (f x)) x xs))

pub each_once : (m : CacheMeaning) → has_repeat (map (λ (e : CacheEntry). e.origin) m.entries) ≡ false → (k : ℕ) → IsEachOnce k (hot_blocks m)
unfolding hot_blocks
each_once m single k b =
    chain (fewer (λ c. stands_for k c b) cached_block (is_hot m) m.entries)
    (sym (count_mapped (covers k b) (λ (e : CacheEntry). e.origin) m.entries)) (few_cover k b (map (λ (e : CacheEntry). e.origin) m.entries) single)
  where
    chain : {x y z : ℕ} → x ≤ y → y ≡ z → z ≤ 1 → x ≤ 1
    chain less same few = omega arith
