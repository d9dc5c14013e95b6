-- The first row that has the origin of an earlier one.
use Rattle.std.proofs.Common.{◌≡◌, false, inl, inr, ℕ, ◌+◌, ◌-◌, ◌<◌, ◌≤◌, min, List, length, get_or, refl, sym, ◌∙◌, ap, arith}
use Rattle.std.specs.List.{enumerate_from, swap}
use Rattle.std.specs.List.Sorted.{IsPermutation, IsSorted}
use Rattle.std.specs.Ordering.{is_lt, nat_cmp, ordering_then}
use Rattle.std.specs.declared.cmp.Ordering.{Ordering}
use Rattle.std.proofs.lemmas.Cmp.{nat_cmp_total, on_total, then_total}
use Rattle.std.proofs.lemmas.List.{length-map, get_or-map, get_or_default}
use Rattle.std.proofs.lemmas.List.Edits.{length-swap, swapped_from_swap}
use Rattle.std.proofs.lemmas.List.FromFn.{length-enumerate_from, get_or-enumerate_from}
use Rattle.std.proofs.lemmas.List.Sorted.{Contains-permutation, IsPermutation-sym, IsPermutation-keeps, sorted_far, ranks_by}
use Rattle.std.proofs.lemmas.Bool.{cases_eq, cases_lt}
use Rattle.std.proofs.lemmas.Bool.Decides.{nat_tests}
use Rattle.pd_salvage_cache.specs.declared.saved.Row.{Row}
use Rattle.pd_restore_kinds.specs.CacheReading.{IsFirstRepeat, IsLeastRepeat, at, places_in}

-- one place more: it is behind another one of its origin, or not
module _ (places : List (ℕ × ℕ)) (i end n new : ℕ) (from : 1 ≤ i) (within : i < length places) (before : IsLeastRepeat places i end n) where
  pub no_repeat : ((at places (i - 1)).0 ≡ (at places i).0 → ⊥) → new ≡ n → IsLeastRepeat places (i + 1) end new
  no_repeat other is = record {
    most = omega (arith, before.most);
    least = λ k under same. grind (arith, before.least k);
    there = λ low. rw (← is) at (before.there (omega arith));
  }

  pub repeat : (at places (i - 1)).0 ≡ (at places i).0 → new ≡ min n (at places i).1 → IsLeastRepeat places (i + 1) end new
  repeat same is = record {
    most = omega (arith, before.most);
    least = λ k under equal. grind (arith, before.least k);
    there = λ low. elim (cases_lt (at places i).1 n) [
      | inl less ↦
          let next = ap (at places) (let back : i - 1 + 1 ≡ i = omega arith in back) in
          (i - 1, (omega arith, (same ∙ sym (ap (λ (p : ℕ × ℕ). p.0) next), ap (λ (p : ℕ × ℕ). p.1) next ∙ omega arith)))
      | inr more ↦ let old : n ≡ new = omega arith in rw old at (before.there (omega arith))
    ];
  }

-- the places as they were gathered
length-places : (rows : List Row) → length (places_in rows) ≡ length rows
length-places rows = length-map (enumerate_from 0 rows) (λ (p : ℕ × Row). (p.1.origin, p.0)) ∙ length-enumerate_from 0 rows

place_is : (rows : List Row) (k : ℕ) (p : ℕ × ℕ) (d : Row) → k < length rows → get_or (places_in rows) k p ≡ ((get_or rows k d).origin, k)
place_is rows k p d within =
    get_or-map (λ (p : ℕ × Row). (p.1.origin, p.0)) (enumerate_from 0 rows) k (0, d) p (omega (arith, length-enumerate_from 0 rows))
    ∙ (ap (λ (p : ℕ × Row). (p.1.origin, p.0)) (get_or-enumerate_from 0 rows k (0, d) within) ∙ ap (λ (i : ℕ). ((get_or rows k d).origin, i)) (omega arith))

-- no place stands twice, in any order
abbrev AreApart : List (ℕ × ℕ) → Type 0
AreApart places = (a b : ℕ) → a < length places → b < length places → (at places a).1 ≡ (at places b).1 → a ≡ b

apart_swapped : (places : List (ℕ × ℕ)) (i j : ℕ) → i < length places → j < length places → AreApart places → AreApart (swap places i j)
apart_swapped places i j first second apart a b la lb same =
    let s = swapped_from_swap places (swap places i j) i j (0, 0) first second refl in
    grind (arith, length-swap places i j, cases_eq a i, cases_eq a j, cases_eq b i, cases_eq b j, s.0, s.1, s.2 a, s.2 b, apart a b, apart j b, apart i b, apart a j, apart a i, apart i j)

module _ (rows : List Row) (d : Row) (sorted : List (ℕ × ℕ)) (moved : IsPermutation (places_in rows) sorted) where
  apart : AreApart sorted
  apart =
      let start : AreApart (places_in rows) = λ a b la lb same.
      omega (
        arith,
        length-places rows,
        ap (λ (p : ℕ × ℕ). p.1) (place_is rows a (0, 0) d (omega (arith, length-places rows))),
        ap (λ (p : ℕ × ℕ). p.1) (place_is rows b (0, 0) d (omega (arith, length-places rows))),
      ) in
      IsPermutation-keeps (places_in rows) AreApart start apart_swapped sorted moved

  -- where a row's place stands, and which row's place stands there
  record IsPlaceOf (k a : ℕ) : Type 0 where
    row : k < length rows
    within : a < length sorted
    origin : (at sorted a).0 ≡ (get_or rows k d).origin
    place : (at sorted a).1 ≡ k

  place_of : (k a : ℕ) → k < length rows → a < length sorted → at sorted a ≡ ((get_or rows k d).origin, k) → IsPlaceOf k a
  place_of k a row within is = record { row = row; within = within; origin = ap (λ (p : ℕ × ℕ). p.0) is; place = ap (λ (p : ℕ × ℕ). p.1) is }

  stands : (k : ℕ) → k < length rows → (a : ℕ) × IsPlaceOf k a
  stands k row =
      let p : ℕ × ℕ = ((get_or rows k d).origin, k) in
      let c = Contains-permutation (places_in rows) sorted p moved (k, omega (arith, length-places rows), place_is rows k p d row) in
      (c.0, place_of k c.0 row c.1 (get_or_default sorted c.0 (0, 0) p c.1 ∙ c.2))

  stood : (a : ℕ) → a < length sorted → (k : ℕ) × IsPlaceOf k a
  stood a within =
      let p = at sorted a in
      let c = Contains-permutation sorted (places_in rows) p (IsPermutation-sym (places_in rows) sorted moved) (a, within, get_or_default sorted a p (0, 0) within) in
      let row : c.0 < length rows = omega (arith, c.1, length-places rows) in
      (c.0, place_of c.0 a row within (sym c.2 ∙ place_is rows c.0 p d row))

-- places in order
abbrev tuple_cmp : ℕ × ℕ → ℕ × ℕ → Ordering
tuple_cmp p q = ordering_then (nat_cmp p.0 q.0) (nat_cmp p.1 q.1)

record AreInOrder (p q : ℕ × ℕ) : Type 0 where
  first : p.0 ≤ q.0
  second : p.0 ≡ q.0 → p.1 ≤ q.1

in_order : (p q : ℕ × ℕ) → is_lt (tuple_cmp q p) ≡ false → AreInOrder p q
in_order p q less = record { first = grind (arith, nat_tests); second = λ same. grind (arith, nat_tests) }

ordered : (sorted : List (ℕ × ℕ)) → IsSorted tuple_cmp sorted → (a b : ℕ) → a ≤ b → b < length sorted → AreInOrder (at sorted a) (at sorted b)
ordered sorted up a b before within =
    let total = then_total (on_total (λ (p : ℕ × ℕ). p.0) nat_cmp_total) (on_total (λ (p : ℕ × ℕ). p.1) nat_cmp_total) in
    in_order (at sorted a) (at sorted b)
    (sorted_far (λ p q. is_lt (tuple_cmp p q)) (ranks_by total (λ (p : ℕ × ℕ). p)) sorted up a b (0, 0) before within)

module _ (rows : List Row) (d : Row) (sorted : List (ℕ × ℕ)) (n : ℕ) (moved : IsPermutation (places_in rows) sorted) (up : IsSorted tuple_cmp sorted)
    (least : IsLeastRepeat sorted (length sorted) (length rows) n) where
  none_before : (j k : ℕ) → j < k → k < n → (get_or rows j d).origin ≡ (get_or rows k d).origin → ⊥
  none_before j k before under same =
      let x = stands rows d sorted moved j (omega (arith, least.most)) in
      let y = stands rows d sorted moved k (omega (arith, least.most)) in
      elim (cases_lt x.0 y.0) [
        | inl below ↦
            let last = y.0 - 1 in
            let next : last + 1 ≡ y.0 = omega arith in
            let here : at sorted (last + 1) ≡ at sorted y.0 = ap (at sorted) next in
            let front = ordered sorted up x.0 last (omega arith) (omega (arith, y.1.within)) in
            let back = ordered sorted up last (last + 1) (omega arith) (omega (arith, y.1.within)) in
            let origin = ap (λ (p : ℕ × ℕ). p.0) here in
            let place = ap (λ (p : ℕ × ℕ). p.1) here in
            let low = least.least last (omega (arith, y.1.within)) (omega (arith, front.first, back.first, x.1.origin, y.1.origin)) in
            omega (arith, y.1.place)
        | inr above ↦
            let down = ordered sorted up y.0 x.0 above x.1.within in
            let second = down.second (omega (arith, x.1.origin, y.1.origin)) in
            omega (arith, x.1.place, y.1.place)
      ]

  one_there : n < length rows → (j : ℕ) × ((j < n) × ((get_or rows j d).origin ≡ (get_or rows n d).origin))
  one_there low =
      let t = least.there low in
      let within = t.1.0 in
      let same = t.1.1.0 in
      let is = t.1.1.1 in
      let x = stood rows d sorted moved t.0 (omega arith) in
      let y = stood rows d sorted moved (t.0 + 1) within in
      let up_to = (ordered sorted up t.0 (t.0 + 1) (omega arith) within).second same in
      let other : x.0 ≡ n → ⊥ = λ one. let both = apart rows d sorted moved t.0 (t.0 + 1) (omega arith) within (omega (arith, x.1.place)) in omega arith in
      let row : y.0 ≡ n = omega (arith, y.1.place) in
      (x.0, (omega (arith, x.1.place, other), omega (arith, x.1.origin, y.1.origin, ap (λ (k : ℕ). (get_or rows k d).origin) row)))

pub first_repeat : (rows : List Row) (sorted : List (ℕ × ℕ)) (n : ℕ) → IsPermutation (places_in rows) sorted → IsSorted (λ x y. ordering_then (nat_cmp x.0 y.0) (nat_cmp x.1 y.1)) sorted
    → IsLeastRepeat sorted (length sorted) (length rows) n → IsFirstRepeat rows n
first_repeat rows sorted n moved up least = record {
  within = least.most;
  differ = λ j k d. none_before rows d sorted n moved up least j k;
  repeats = λ d. one_there rows d sorted n moved up least;
}
