-- The sum of the weights of the numbers that pass a test, below a bound.
use Rattle.std.proofs.Common.{◌≡◌, ◌≢◌, ℕ, zero, suc, ◌+◌, ◌<◌, ◌≤◌, Bool, true, false, ◌||◌, cond, nat_eq, List, [], ◌∷◌, length, filter, refl, ap, sym, ◌∙◌, zero-add, arith, eq-eqb, inl, inr}
use Rattle.std.proofs.Math.Bool.{or-false}
use Rattle.std.specs.List.{count_by, flat_map, range_with_len}
use Rattle.std.proofs.lemmas.Bool.{cases_eq}
use Rattle.std.proofs.lemmas.List.Sums.{sum_by-append}
use Rattle.pd_kinds.proofs.NumberLemmas.{differ}
use Rattle.pd_graph.specs.Walk.{weigh_list, weigh}

-- tests that agree from a on weigh the same
same_weight_from : (f g : ℕ → Bool) (w : ℕ → ℕ) (a n : ℕ) → ((q : ℕ) → a ≤ q → q < a + n → g q ≡ f q)
    → weigh_list g w (range_with_len a n) ≡ weigh_list f w (range_with_len a n)
same_weight_from f g w a zero same = refl
same_weight_from f g w a (suc n) same =
    let first = same a (omega arith) (omega arith) in
    let rest = same_weight_from f g w (a + 1) n (λ q low high. same q (omega arith) (omega arith)) in
    rw (first, rest) refl

-- the gain, where the number is another and where it is this one
other : (f : ℕ → Bool) (p q : ℕ) → q ≢ p → (f q || nat_eq q p) ≡ f q
other f p q ne = rw (differ q p ne) (or-false (f q))

found : (f : ℕ → Bool) (p q : ℕ) → q ≡ p → f q ≡ false → (f q || nat_eq q p) ≡ true
found f p q e old = rw (old, eq-eqb q p e) refl

-- a test that gains one number weighs more by its weight
more_weight_from : (f g : ℕ → Bool) (w : ℕ → ℕ) (p a n : ℕ) → a ≤ p → p < a + n → f p ≡ false → ((q : ℕ) → g q ≡ (f q || nat_eq q p))
    → weigh_list g w (range_with_len a n) ≡ weigh_list f w (range_with_len a n) + w p
more_weight_from f g w p a zero low high new gains = absurd (omega arith)
more_weight_from f g w p a (suc n) low high new gains = elim (cases_eq a p) [
  | inl same ↦
      let rest = same_weight_from f g w (a + 1) n (λ q from below. gains q ∙ other f p q (λ e. absurd (omega arith))) in
      let old : f a ≡ false = ap f same ∙ new in
      let now : g a ≡ true = gains a ∙ found f p a same old in
      let weight = ap w same in
      rw (rest, old, now) (omega arith)
  | inr ne ↦
      let rest = more_weight_from f g w p (a + 1) n (omega arith) (omega arith) new gains in
      rw (rest, gains a ∙ other f p a ne) (omega arith)
]

pub more_weight : (f g : ℕ → Bool) (w : ℕ → ℕ) (p n : ℕ) → p < n → f p ≡ false → ((q : ℕ) → g q ≡ (f q || nat_eq q p))
    → weigh g w n ≡ weigh f w n + w p
unfolding weigh
more_weight f g w p n small new gains = more_weight_from f g w p 0 n (omega arith) (omega arith) new gains

-- tests that agree below n weigh the same
pub same_weight : (f g : ℕ → Bool) (w : ℕ → ℕ) (n : ℕ) → ((q : ℕ) → q < n → g q ≡ f q) → weigh g w n ≡ weigh f w n
unfolding weigh
same_weight f g w n same = same_weight_from f g w 0 n (λ q low high. same q (omega arith))

wider_one : (a b : Bool) (m : ℕ) → (a ≡ true → b ≡ true) → cond a m 0 ≤ cond b m 0
wider_one true b m wider = rw (wider refl) (omega arith)
wider_one false b m wider = omega arith

-- a wider test weighs no less
wider_from : (f g : ℕ → Bool) (w : ℕ → ℕ) (xs : List ℕ) → ((q : ℕ) → f q ≡ true → g q ≡ true) → weigh_list f w xs ≤ weigh_list g w xs
wider_from f g w [] wider = omega arith
wider_from f g w (x ∷ xs) wider =
    let rest = wider_from f g w xs wider in
    let first = wider_one (f x) (g x) (w x) (wider x) in
    omega arith

pub wider_weight : (f g : ℕ → Bool) (w : ℕ → ℕ) (n : ℕ) → ((q : ℕ) → f q ≡ true → g q ≡ true) → weigh f w n ≤ weigh g w n
unfolding weigh
wider_weight f g w n wider = wider_from f g w (range_with_len 0 n) wider

pub at_most_one : (b : Bool) → cond b 1 0 ≤ 1
at_most_one true = omega arith
at_most_one false = omega arith

-- where each weighs 1, the weight is at most n
ones_from : (f : ℕ → Bool) (a n : ℕ) → weigh_list f (λ q. 1) (range_with_len a n) ≤ n
ones_from f a zero = omega arith
ones_from f a (suc n) = let rest = ones_from f (a + 1) n in let first = at_most_one (f a) in omega arith

pub ones_below : (f : ℕ → Bool) (n : ℕ) → weigh f (λ q. 1) n ≤ n
unfolding weigh
ones_below f n = ones_from f 0 n

-- where nothing passes, the weight is 0
none_from : (f : ℕ → Bool) (w : ℕ → ℕ) (xs : List ℕ) → ((q : ℕ) → f q ≡ false) → weigh_list f w xs ≡ 0
none_from f w [] none = refl
none_from f w (x ∷ xs) none = rw (none x, none_from f w xs none) refl

pub none_weigh : (f : ℕ → Bool) (w : ℕ → ℕ) (n : ℕ) → ((q : ℕ) → f q ≡ false) → weigh f w n ≡ 0
unfolding weigh
none_weigh f w n none = none_from f w (range_with_len 0 n) none

length_first : (b : Bool) (x : ℕ) (kept : List ℕ) (m : ℕ) → length kept ≡ m → length (cond b (x ∷ kept) kept) ≡ cond b 1 0 + m
length_first true x kept m e = omega arith
length_first false x kept m e = omega arith

-- the number of those that pass
length_from : (f : ℕ → Bool) (xs : List ℕ) → length (filter f xs) ≡ weigh_list f (λ q. 1) xs
length_from f [] = refl
length_from f (x ∷ xs) = length_first (f x) x (filter f xs) (weigh_list f (λ q. 1) xs) (length_from f xs)

pub length_weighs : (f : ℕ → Bool) (n : ℕ) → length (filter f (range_with_len 0 n)) ≡ weigh f (λ q. 1) n
unfolding weigh
length_weighs f n = length_from f (range_with_len 0 n)

count_first : (t : ℕ → Bool) (g : ℕ → List ℕ) (b : Bool) (x : ℕ) (kept : List ℕ) (m : ℕ) → count_by t (flat_map g kept) ≡ m
    → count_by t (flat_map g (cond b (x ∷ kept) kept)) ≡ cond b (count_by t (g x)) 0 + m
count_first t g true x kept m e =
    let joined = sum_by-append (λ (y : ℕ). cond (t y) 1 0) (g x) (flat_map g kept) in
    joined ∙ ap (λ (k : ℕ). count_by t (g x) + k) e
count_first t g false x kept m e = e ∙ sym (zero-add m)

-- how many elements pass in the lists of those that pass
count_from : (f t : ℕ → Bool) (g : ℕ → List ℕ) (xs : List ℕ) → count_by t (flat_map g (filter f xs)) ≡ weigh_list f (λ q. count_by t (g q)) xs
count_from f t g [] = refl
count_from f t g (x ∷ xs) = count_first t g (f x) x (filter f xs) _ (count_from f t g xs)

pub count_weighs : (f t : ℕ → Bool) (g : ℕ → List ℕ) (n : ℕ) → count_by t (flat_map g (filter f (range_with_len 0 n))) ≡ weigh f (λ q. count_by t (g q)) n
unfolding weigh
count_weighs f t g n = count_from f t g (range_with_len 0 n)
