-- Entries whose places ascend: what is found among them, what one more or another number does, and how many are counted.
use Rattle.std.proofs.Common.{◌≡◌, ◌≢◌, ℕ, zero, suc, ◌+◌, ◌-◌, ◌<◌, ◌≤◌, Bool, not, ◌&&◌, true, false, cond, eqb, nat_lt, List, [], ◌∷◌, ◌++◌, length, map, take, get_or, set, get_or-set_same, get_or-set_other, if◌then◌else◌, Result, Ok, Err, IfOk, IfErr, inl, inr, refl, sym, ◌∙◌, ap, subst, arith, add-one}
use Rattle.std.specs.List.{insert, count_by, range_with_len}
use Rattle.std.specs.List.Sorted.{IsSearchInRange, IsBinarySearchResult, IsNonDecreasingBy}
use Rattle.std.specs.Ordering.{nat_cmp, ordering_index}
use Rattle.std.proofs.Math.Seq.{take-suc}
use Rattle.std.proofs.lemmas.Cmp.{ranked}
use Rattle.std.proofs.lemmas.Bool.{cases_eq, cases_lt, eq-eqb, ne_eqb, lt-ltb, le-ltb}
use Rattle.std.proofs.lemmas.Bool.Decides.{nat_tests}
use Rattle.std.proofs.lemmas.Grind.{common_steps}
use Rattle.std.proofs.lemmas.List.Edits.{length-insert, get_or-insert_below, get_or-insert_at, get_or-insert_above}
use Rattle.std.proofs.lemmas.List.FromFn.{sum_by-map-range_with_len_more}
use Rattle.std.proofs.lemmas.List.Sorted.{IsNonDecreasingBy-from_default}
use Rattle.std.proofs.lemmas.List.Sums.{sum_by-cons}
use Rattle.pd_count.specs.declared.few.Entry.{Entry}
use Rattle.pd_count.specs.Counted.{AreEntries, IsAt, IsGapFor, Puts, entered, place_at}

-- what is read where no entry is
abbrev pub nothing : Entry
nothing = record { place = 0; number = 0 }

abbrev pub number_at : List Entry → ℕ → ℕ
number_at l i = let entry = get_or l i nothing in entry.number

-- no entry before entry i has the place
abbrev pub NoneBefore : List Entry → ℕ → ℕ → Type 0
NoneBefore l at i = (j : ℕ) → j < i → place_at l j ≢ at

-- the numbers of new are those of old, but at one place
abbrev pub EntersAfter : List Entry → List Entry → ℕ → ℕ → Type 0
EntersAfter old new at number = (q : ℕ) → entered new q ≡ (if eqb at q then number else entered old q)

none_before_tail : (x : Entry) (l : List Entry) (at i : ℕ) → NoneBefore (x ∷ l) at (suc i) → NoneBefore l at i
none_before_tail x l at i none j less = none (suc j) (omega arith)

is_at_tail : (x : Entry) (l : List Entry) (at i : ℕ) → IsAt (x ∷ l) at (suc i) → IsAt l at i
is_at_tail x l at i is_at = record { within = omega (arith, is_at.within); place = is_at.place }

-- what each number of a place has, the number of the place has
pub entered_has : (P : ℕ → Type 0) (l : List Entry) (at : ℕ) → P 0 → ((j : ℕ) → j < length l → place_at l j ≡ at → P (number_at l j)) → P (entered l at)
entered_has P [] at none each = none
entered_has P (x ∷ l) at none each = elim (cases_eq x.place at) [
  | inl same ↦ subst P (sym (ap (λ (t : Bool). cond t x.number (entered l at)) (eq-eqb x.place at same))) (each 0 (omega arith) same)
  | inr other ↦ subst P (sym (ap (λ (t : Bool). cond t x.number (entered l at)) (ne_eqb x.place at other)))
      (entered_has P l at none (λ j less is. each (suc j) (omega arith) is))
]

entered_absent : (l : List Entry) (at : ℕ) → NoneBefore l at (length l) → entered l at ≡ 0
entered_absent l at none = entered_has (λ n. n ≡ 0) l at refl (λ j less is. absurd (none j less is))

entered_present : (l : List Entry) (at i : ℕ) → IsAt l at i → NoneBefore l at i → entered l at ≡ number_at l i
entered_present [] at i is_at none = absurd (omega (arith, is_at.within))
entered_present (x ∷ l) at zero is_at none = grind (arith, nat_tests, is_at.place)
entered_present (x ∷ l) at (suc i) is_at none = grind (arith, nat_tests, none 0 (omega arith), entered_present l at i (is_at_tail x l at i is_at) (none_before_tail x l at i none))

entered_set : (l : List Entry) (at n i : ℕ) → IsAt l at i → NoneBefore l at i → EntersAfter l (set l i (record { place = at; number = n })) at n
entered_set [] at n i is_at none q = absurd (omega (arith, is_at.within))
entered_set (x ∷ l) at n zero is_at none q = grind (arith, nat_tests, is_at.place)
entered_set (x ∷ l) at n (suc i) is_at none q =
    grind (arith, nat_tests, none 0 (omega arith), entered_set l at n i (is_at_tail x l at i is_at) (none_before_tail x l at i none) q)

entered-insert : (l : List Entry) (at n i : ℕ) → NoneBefore l at i → EntersAfter l (insert l i (record { place = at; number = n })) at n
entered-insert l at n zero none q = refl
entered-insert [] at n (suc i) none q = refl
entered-insert (x ∷ l) at n (suc i) none q =
    grind (arith, nat_tests, none 0 (omega arith), entered-insert l at n i (none_before_tail x l at i none) q)

entered_behind : (l : List Entry) (e : Entry) → NoneBefore l e.place (length l) → EntersAfter l (l ++ e ∷ []) e.place e.number
entered_behind [] e none q = refl
entered_behind (x ∷ l) e none q =
    grind (arith, nat_tests, none 0 (omega arith), entered_behind l e (none_before_tail x l e.place (length l) none) q)

-- one equation for each place says what was put
puts_from : (old new : List Entry) (at n : ℕ) → EntersAfter old new at n → Puts at n (entered old) (entered new)
puts_from old new at n enters = record { put = grind (arith, nat_tests, enters at); others = λ k other below. grind (arith, nat_tests, enters k) }

module _ (l : List Entry) (are : AreEntries l) where
  -- the comparisons with a place rise along the list, as a binary search asks
  comparisons_rise : (at : ℕ) → IsNonDecreasingBy (λ (entry : Entry). ordering_index (nat_cmp entry.place at)) l
  comparisons_rise at = IsNonDecreasingBy-from_default (λ (entry : Entry). ordering_index (nat_cmp entry.place at)) l nothing (λ i j le less.
      let rise : place_at l i ≤ place_at l j = grind (arith, are.ascend i j, λ (same : i ≡ j). ap (place_at l) same) in
      grind (arith, nat_tests))

  -- a binary search ends at the place, or where it would go
  pub searched : (at : ℕ) (r : Result ℕ ℕ) → IsSearchInRange r (length l) → IsBinarySearchResult (λ (entry : Entry). nat_cmp entry.place at) l r
      → record { found : IfOk r (IsAt l at); absent : IfErr r (IsGapFor l at) }
  searched at (Ok i) within equal = record { found = record { within = within; place = ranked _ at _ (sym (equal nothing)) }; absent = tt }
  searched at (Err i) within parted = record {
    found = tt;
    absent = record {
      within = within;
      before = λ j less. ranked _ at _ (sym ((parted (comparisons_rise at)).0 j nothing (omega arith) less));
      behind = λ j from less. ranked _ at _ (sym ((parted (comparisons_rise at)).1 j nothing from less));
    };
  }

  none_before : (at i : ℕ) → i < length l → at ≡ place_at l i → NoneBefore l at i
  none_before at i within is j less same = omega (arith, are.ascend j i less within)

  -- the number at the place of an entry is the entry's
  pub entered_here : (i : ℕ) → i < length l → entered l (place_at l i) ≡ number_at l i
  entered_here i within = entered_present l (place_at l i) i (record { within = within; place = refl }) (none_before (place_at l i) i within refl)

  pub entered_at : (at i : ℕ) → IsAt l at i → number_at l i ≡ entered l at
  entered_at at i is_at = sym (entered_present l at i is_at (none_before at i is_at.within (sym is_at.place)))

  pub puts_set : (at n i : ℕ) → IsAt l at i → Puts at n (entered l) (entered (set l i (record { place = at; number = n })))
  puts_set at n i is_at = puts_from l _ at n (entered_set l at n i is_at (none_before at i is_at.within (sym is_at.place)))

  pub sorted_set : (at n i : ℕ) → at < 16320 → IsAt l at i → AreEntries (set l i (record { place = at; number = n }))
  sorted_set at n i below is_at = record {
    ascend = λ j k less within. grind (arith, common_steps, are.ascend j k, are.ascend j i, are.ascend i k, is_at.within, is_at.place);
    places = λ j within. grind (arith, common_steps, are.places j, is_at.within, is_at.place);
  }

  -- the first entries, and one more of them
  pub entered_more : (i : ℕ) → i < length l → EntersAfter (take i l) (take (i + 1) l) (place_at l i) (number_at l i)
  entered_more i within =
      let front : (j : ℕ) → j < i → place_at (take i l) j ≡ place_at l j = λ j less. grind (arith, common_steps) in
      let none : NoneBefore (take i l) (place_at l i) (length (take i l)) =
      λ j less same. grind (arith, common_steps, front j, are.ascend j i, same) in
      subst (λ (more : List Entry). EntersAfter (take i l) more (place_at l i) (number_at l i))
      (sym (ap (λ (n : ℕ). take n l) (add-one i) ∙ take-suc l i nothing within))
      (entered_behind (take i l) (get_or l i nothing) none)

  -- the entries before one of the place, and those from it on
  pub at_splits : (at i : ℕ) → IsAt l at i → ((j : ℕ) → j < i → place_at l j < at) × ((j : ℕ) → i ≤ j → j < length l → at ≤ place_at l j)
  at_splits at i is_at =
      let is = is_at.place in (
        λ j less. let rise = are.ascend j i less is_at.within in omega arith,
        λ j from within. elim (cases_lt i j) [
          | inl more ↦ let rise = are.ascend i j more within in omega arith
          | inr same ↦ let e : j ≡ i = omega arith in let one = ap (place_at l) e in omega arith
        ],
      )

  -- the first entry from a place on that has enough
  pub found_first : (from least i p : ℕ) → 0 < least → i < length l → p ≡ place_at l i → from ≤ p → least ≤ number_at l i
      → ((j : ℕ) → j < i → from ≤ place_at l j → number_at l j < least)
      → (from ≤ p) × ((p < 16320) × ((least ≤ entered l p) × ((k : ℕ) → from ≤ k → k < p → entered l k < least)))
  found_first from least i p some within is above enough less =
      let place = are.places i within in
      let here : entered l p ≡ number_at l i = ap (entered l) is ∙ entered_here i within in (
        above,
        (
          omega arith,
          (
            omega arith,
            λ k behind below. entered_has (λ n. n < least) l k some (λ j inside at. elim (cases_lt j i) [
              | inl before ↦ less j before (omega arith)
              | inr after ↦ elim (cases_lt i j) [
                | inl more ↦ let rise = are.ascend i j more inside in absurd (omega arith)
                | inr same ↦ let same : j ≡ i = omega arith in let where_it_is = ap (place_at l) same in absurd (omega arith)
              ]
            ]),
          ),
        ),
      )

module _ (l : List Entry) (at i : ℕ) (gap : IsGapFor l at i) where
  pub entered_in_gap : entered l at ≡ 0
  entered_in_gap = entered_absent l at (λ j less same. grind (arith, gap.before j, gap.behind j))

  pub puts-insert : (n : ℕ) → Puts at n (entered l) (entered (insert l i (record { place = at; number = n })))
  puts-insert n = puts_from l _ at n (entered-insert l at n i (λ j less same. omega (arith, gap.before j less)))

  -- each new place is an old one before the gap, the one in it, or an old one moved up by one
  pub sorted_insert : (n : ℕ) → at < 16320 → AreEntries l → AreEntries (insert l i (record { place = at; number = n }))
  sorted_insert n small are =
      let e : Entry = record { place = at; number = n } in
      let new = insert l i e in
      let place = λ (x : Entry). x.place in
      let size = length-insert l i e gap.within in
      let below : (k : ℕ) → k < i → place_at new k ≡ place_at l k = λ k less. ap place (get_or-insert_below l i e nothing k less gap.within) in
      let here : (k : ℕ) → k ≡ i → place_at new k ≡ at = λ k is. rw is (ap place (get_or-insert_at l i e nothing gap.within)) in
      let above : (k : ℕ) → i < k → place_at new k ≡ place_at l (k - 1) = λ k more. subst (λ q. place_at new q ≡ place_at l (k - 1)) {x = k - 1 + 1} (omega arith) (ap place (get_or-insert_above l i e nothing (k - 1) (omega arith) gap.within)) in
      record {
        ascend = λ j k less within.
            grind (arith, below j, here j, above j, below k, here k, above k, are.ascend j k, are.ascend j (k - 1), are.ascend (j - 1) (k - 1), gap.before j, gap.behind (k - 1));
        places = λ k within. grind (arith, below k, here k, above k, are.places k, are.places (k - 1));
      }

pub none_found : (l : List Entry) (from least : ℕ) → 0 < least → ((j : ℕ) → j < length l → from ≤ place_at l j → number_at l j < least)
    → (k : ℕ) → from ≤ k → entered l k < least
none_found l from least some less k behind = entered_has (λ n. n < least) l k some (λ j inside at. less j inside (omega arith))

-- the number of an entry was written behind those of the entries before it
pub entered_written : (l : List Entry) → AreEntries l → (i p n : ℕ) (numbers : List ℕ) → i < length l → p ≡ place_at l i → n ≡ number_at l i
    → length numbers ≡ 16320 → ((k : ℕ) → get_or numbers k 0 ≡ entered (take i l) k) → (k : ℕ) → get_or (set numbers p n) k 0 ≡ entered (take (i + 1) l) k
entered_written l are i p n numbers within place is size so_far k =
    let more = entered_more l are i within k in
    let small = are.places i within in
    elim (cases_eq k p) [
      | inl same ↦
          let test : eqb (place_at l i) k ≡ true = eq-eqb (place_at l i) k (omega arith) in
          ap (λ (q : ℕ). get_or (set numbers p n) q 0) same ∙ (get_or-set_same numbers p n 0 (omega arith) ∙ (is
          ∙ sym (more ∙ ap (λ (t : Bool). cond t (number_at l i) (entered (take i l) k)) test)))
      | inr other ↦
          let test : eqb (place_at l i) k ≡ false = ne_eqb (place_at l i) k (λ e. other (omega arith)) in
          get_or-set_other numbers p k n 0 other ∙ (so_far k ∙ sym (more ∙ ap (λ (t : Bool). cond t (number_at l i) (entered (take i l) k)) test))
    ]

-- and put among the digits
pub entered_put : (l : List Entry) → AreEntries l → (i p n : ℕ) (old new : ℕ → ℕ) → i < length l → p ≡ place_at l i → n ≡ number_at l i
    → Puts p n old new → ((k : ℕ) → k < 16320 → old k ≡ entered (take i l) k) → (k : ℕ) → k < 16320 → new k ≡ entered (take (i + 1) l) k
entered_put l are i p n old new within place is puts so_far k below =
    let more = entered_more l are i within k in
    elim (cases_eq k p) [
      | inl same ↦
          let test : eqb (place_at l i) k ≡ true = eq-eqb (place_at l i) k (omega arith) in
          ap new same ∙ (puts.put ∙ (is ∙ sym (more ∙ ap (λ (t : Bool). cond t (number_at l i) (entered (take i l) k)) test)))
      | inr other ↦
          let test : eqb (place_at l i) k ≡ false = ne_eqb (place_at l i) k (λ e. other (omega arith)) in
          puts.others k other below ∙ (so_far k below ∙ sym (more ∙ ap (λ (t : Bool). cond t (number_at l i) (entered (take i l) k)) test))
    ]

-- How many places have no number.

abbrev pub one_if : Bool → ℕ
one_if passes = cond passes 1 0

abbrev is_zero : ℕ → ℕ
is_zero n = one_if (eqb n 0)

-- an entry below a place that has a number
abbrev pub is_counted : ℕ → Entry → Bool
is_counted covered e = nat_lt e.place covered && not (eqb e.number 0)

none_counted_below : (l : List Entry) → count_by (is_counted 0) l ≡ 0
none_counted_below [] = refl
none_counted_below (x ∷ l) =
    let first : one_if (is_counted 0 x) ≡ 0 = ap (λ (t : Bool). one_if (t && not (eqb x.number 0))) (le-ltb x.place 0 (omega arith)) in
    omega (arith, sum_by-cons (λ (e : Entry). cond (is_counted 0 e) 1 0) x l, first, none_counted_below l)

tail : (x : Entry) (l : List Entry) → AreEntries (x ∷ l) → AreEntries l
tail x l are = record { ascend = λ i j less within. are.ascend (suc i) (suc j) (omega arith) (omega arith); places = λ i within. are.places (suc i) (omega arith) }

-- one place more
counted_more : (l : List Entry) → AreEntries l → (n : ℕ) → count_by (is_counted (n + 1)) l + is_zero (entered l n) ≡ count_by (is_counted n) l + 1
counted_more [] are n = refl
counted_more (x ∷ l) are n =
    let rest = counted_more l (tail x l are) n in
    let more = sum_by-cons (λ (e : Entry). cond (is_counted (n + 1) e) 1 0) x l in
    let less = sum_by-cons (λ (e : Entry). cond (is_counted n e) 1 0) x l in
    elim (cases_eq x.place n) [
      | inl same ↦
          let none : entered l n ≡ 0 = entered_absent l n (λ j below is. omega (arith, are.ascend 0 (suc j) (omega arith) (omega arith), is)) in
          let below : nat_lt x.place (n + 1) ≡ true = lt-ltb x.place (n + 1) (omega arith) in
          let not_below : nat_lt x.place n ≡ false = le-ltb x.place n (omega arith) in
          grind (arith, nat_tests)
      | inr other ↦ grind (arith, nat_tests)
    ]

zeros_next : (l : List Entry) → AreEntries l → (n m : ℕ) → m ≡ n + 1 → count_by (λ n. eqb n 0) (map (entered l) (range_with_len 0 n)) + count_by (is_counted n) l ≡ n
    → count_by (λ n. eqb n 0) (map (entered l) (range_with_len 0 m)) + count_by (is_counted m) l ≡ m
zeros_next l are n m is rest =
    let more = counted_more l are n in
    let next : count_by (λ n. eqb n 0) (map (entered l) (range_with_len 0 (n + 1))) ≡ count_by (λ n. eqb n 0) (map (entered l) (range_with_len 0 n)) + is_zero (entered l n) =
    sum_by-map-range_with_len_more is_zero (entered l) 0 n n (omega arith) in
    rw is (omega (arith, rest, more, next))

pub zeros_counted : (l : List Entry) → AreEntries l → (n : ℕ)
    → count_by (λ n. eqb n 0) (map (entered l) (range_with_len 0 n)) + count_by (is_counted n) l ≡ n
zeros_counted l are zero = omega (arith, none_counted_below l)
zeros_counted l are (suc n) = zeros_next l are n (suc n) (omega arith) (zeros_counted l are n)
