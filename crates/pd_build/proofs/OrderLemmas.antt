-- Items in order.
use Rattle.std.proofs.Common.{◌≡◌, ℕ, ◌+◌, ◌<◌, ◌≤◌, Bool, true, nat_lt, List, [], ◌∷◌, ◌++◌, length, refl, sym, ◌∙◌, ap, arith}
use Rattle.std.specs.List.{AllByRecursion, flat_map}
use Rattle.std.proofs.lemmas.Bool.{and_from, and_parts, lt-ltb, ltb-true}
use Rattle.std.proofs.lemmas.List.{map-append}
use Rattle.std.proofs.lemmas.List.Elements.{All-append, All-cons, All-nil}
use Rattle.pd_kinds.specs.Node.{Entry, is_ascending}
use Rattle.pd_kinds.proofs.KindLemmas.{asc_right}
use Rattle.pd_kinds.specs.Trees.{keys_of as keys}
use Rattle.pd_laid.specs.Laid.{heads}
use Rattle.pd_node.specs.Items.{keys_of}
use Rattle.pd_build.specs.Tree.{AreInOrder, low_after}

-- the least key above a last entry
pub low_after-last : (low : ℕ) (entries : List Entry) (e : Entry) → low_after low (entries ++ e ∷ []) ≡ e.key + 1
low_after-last low [] e = refl
low_after-last low (x ∷ entries) e = low_after-last (x.key + 1) entries e

-- each of ascending numbers is below a later one
first_less : (x : ℕ) (xs : List ℕ) (y : ℕ) (ys : List ℕ) → is_ascending (x ∷ (xs ++ y ∷ ys)) ≡ true → x < y
unfolding is_ascending
first_less x [] y ys asc = ltb-true x y (and_parts (nat_lt x y) _ asc).0
first_less x (z ∷ xs) y ys asc =
    let parts = and_parts (nat_lt x z) (is_ascending (z ∷ (xs ++ y ∷ ys))) asc in
    let less = ltb-true x z parts.0 in
    let rest = first_less z xs y ys parts.1 in
    omega arith

-- the least keys of parts ascend where the parts do
pub heads_ascend : (q : ℕ) (groups : List (List Entry)) → AllByRecursion (λ (g : List Entry). 1 ≤ length g) groups
    → is_ascending (keys (flat_map (λ (g : List Entry). g) groups)) ≡ true → is_ascending (keys (heads q groups)) ≡ true
unfolding heads is_ascending
heads_ascend q [] some asc = refl
heads_ascend q (g ∷ []) some asc = refl
heads_ascend q ([] ∷ groups) some asc = absurd (omega (arith, some.0))
heads_ascend q (g ∷ [] ∷ groups) some asc = absurd (omega (arith, some.1.0))
heads_ascend q ((e ∷ es) ∷ (f ∷ fs) ∷ groups) some asc =
    let rest = flat_map (λ (g : List Entry). g) ((f ∷ fs) ∷ groups) in
    let split : is_ascending (keys (e ∷ es) ++ keys rest) ≡ true = ap is_ascending (sym (map-append (λ (x : Entry). x.key) (e ∷ es) rest)) ∙ asc in
    and_from (nat_lt e.key f.key) _ (lt-ltb e.key f.key (first_less e.key (keys es) f.key _ split))
    (heads_ascend (q + 1) ((f ∷ fs) ∷ groups) some.1 (asc_right (keys (e ∷ es)) (keys rest) split))

-- a number above them at the end
pub ascending_more : (xs : List ℕ) (y : ℕ) → is_ascending xs ≡ true → AllByRecursion (λ k. k < y) xs → is_ascending (xs ++ y ∷ []) ≡ true
unfolding is_ascending
ascending_more [] y asc below = refl
ascending_more (x ∷ []) y asc below = and_from (nat_lt x y) true (lt-ltb x y below.0) refl
ascending_more (x ∷ z ∷ xs) y asc below =
    let parts = and_parts (nat_lt x z) (is_ascending (z ∷ xs)) asc in
    and_from (nat_lt x z) _ parts.0 (ascending_more (z ∷ xs) y parts.1 below.1)

pub below_higher : (low high : ℕ) (xs : List ℕ) → low ≤ high → AllByRecursion (λ k. k < low) xs → AllByRecursion (λ k. k < high) xs
below_higher low high [] less below = tt
below_higher low high (x ∷ xs) less below = (omega (arith, below.0), below_higher low high xs less below.1)

pub below_more : (low y : ℕ) (xs : List ℕ) → low ≤ y → AllByRecursion (λ k. k < low) xs → AllByRecursion (λ k. k < y + 1) (xs ++ y ∷ [])
below_more low y [] less below = (omega arith, tt)
below_more low y (x ∷ xs) less below = (omega (arith, below.0), below_more low y xs less below.1)

module _ {X : Type 0} (fitting : X → Bool) where
  pub in_order_none : (low : ℕ) → AreInOrder fitting [] low
  unfolding is_ascending
  in_order_none low = record { ascending = refl; below = tt; fit = All-nil (λ (item : ℕ × X). fitting item.1 ≡ true) }

  pub in_order_more : (items : List (ℕ × X)) (low key : ℕ) (value : X) → AreInOrder fitting items low → low ≤ key → fitting value ≡ true
      → AreInOrder fitting (items ++ (key, value) ∷ []) (key + 1)
  in_order_more items low key value order above fits = record {
    ascending = rw (map-append (λ (item : ℕ × X). item.0) items ((key, value) ∷ []))
        (ascending_more (keys_of items) key order.ascending (below_higher low key (keys_of items) above order.below));
    below = rw (map-append (λ (item : ℕ × X). item.0) items ((key, value) ∷ [])) (below_more low key (keys_of items) above order.below);
    fit = All-append (λ (item : ℕ × X). fitting item.1 ≡ true) items ((key, value) ∷ []) order.fit
        (All-cons (λ (item : ℕ × X). fitting item.1 ≡ true) (key, value) [] fits (All-nil (λ (item : ℕ × X). fitting item.1 ≡ true)));
  }
