-- Places that wait to be counted: what one more of them comes to, and one less.
use Rattle.std.proofs.Common.{◌≡◌, ◌≢◌, ℕ, suc, ◌+◌, ◌%◌, ◌<◌, ◌≤◌, Bool, cond, eqb, List, [], ◌∷◌, ◌++◌, length, take, get_or, inl, inr, refl, sym, ◌∙◌, ap, ap₂, arith, Result, Ok, Err, OnErr}
use Rattle.std.specs.List.{count_by}
use Rattle.std.proofs.Math.Seq.{take-suc}
use Rattle.std.proofs.lemmas.Bool.{cases_eq, eq-eqb, ne_eqb}
use Rattle.std.proofs.lemmas.List.{take_all}
use Rattle.std.proofs.lemmas.List.Sums.{sum_by_push}
use Rattle.pd_count.specs.declared.waiting.WaitingPlaces.{WaitingPlaces}
use Rattle.pd_count.specs.Counted.{AreDigits, HaveSameNumbers, Puts, digits_number, number_with, waiting_number}

-- how often a place is among these
abbrev times : ℕ → List ℕ → ℕ
times k ps = count_by (λ p. eqb p k) ps

abbrev bit : Bool → ℕ
bit t = cond t 1 0

one : (k : ℕ) → bit (eqb k k) ≡ 1
one k = ap bit (eq-eqb k k refl)

none : (p k : ℕ) → p ≢ k → bit (eqb p k) ≡ 0
none p k apart = ap bit (ne_eqb p k apart)

-- with one more of those that wait
first_more : (ps : List ℕ) (n k : ℕ) → n < length ps → times k (take (suc n) ps) ≡ times k (take n ps) + bit (eqb (get_or ps n 0) k)
first_more ps n k less = ap (times k) (take-suc ps n 0 less) ∙ sum_by_push (λ p. cond (eqb p k) 1 0) (take n ps) (get_or ps n 0)

-- with none of them, with one more, and with all
pub with_none : (w : WaitingPlaces) (k : ℕ) → number_with w 0 k ≡ digits_number w.digits.items k
unfolding number_with
with_none w k = omega arith

with_more : (w : WaitingPlaces) (n k : ℕ) → n < length w.places.items → number_with w (suc n) k ≡ number_with w n k + bit (eqb (get_or w.places.items n 0) k)
unfolding number_with
with_more w n k less = let more = first_more w.places.items n k less in omega (arith, more)

pub with_all : (w : WaitingPlaces) (n k : ℕ) → length w.places.items ≤ n → number_with w n k ≡ waiting_number w k
unfolding number_with
with_all w n k all =
    ap (λ (ps : List ℕ). digits_number w.digits.items k + times k ps) (take_all n w.places.items all ∙ sym (take_all (length w.places.items) w.places.items (omega arith)))

number_is : (w : WaitingPlaces) (k : ℕ) → waiting_number w k ≡ digits_number w.digits.items k + times k w.places.items
unfolding number_with
number_is w k = ap (λ (ps : List ℕ). digits_number w.digits.items k + times k ps) (take_all (length w.places.items) w.places.items (omega arith))

-- one place more waits
module _ (w v : WaitingPlaces) (at : ℕ) (digits : v.digits.items ≡ w.digits.items) (places : v.places.items ≡ w.places.items ++ at ∷ []) where
  one_more : (k : ℕ) → waiting_number v k ≡ waiting_number w k + bit (eqb at k)
  one_more k =
      let is : waiting_number v k ≡ digits_number w.digits.items k + times k (w.places.items ++ at ∷ []) =
      number_is v k ∙ ap₂ (λ (d ps : List ℕ). digits_number d k + times k ps) digits places in
      let was = number_is w k in
      let push : times k (w.places.items ++ at ∷ []) ≡ times k w.places.items + bit (eqb at k) = sum_by_push (λ p. cond (eqb p k) 1 0) w.places.items at in
      omega (arith, is, was, push)

  pub waits : Puts at (waiting_number w at + 1) (waiting_number w) (waiting_number v)
  waits = record {
    put = one_more at ∙ ap (λ n. waiting_number w at + n) (one at);
    others = λ k apart within. one_more k ∙ (ap (λ n. waiting_number w k + n) (none at k (λ same. apart (sym same))) ∙ omega arith);
  }

-- other places, and other digits, of the same numbers
pub same_items : (w v : WaitingPlaces) → v.digits.items ≡ w.digits.items → v.places.items ≡ w.places.items → HaveSameNumbers v w
same_items w v digits places k within =
    number_is v k ∙ (ap₂ (λ (d ps : List ℕ). digits_number d k + times k ps) digits places ∙ sym (number_is w k))

first_is : (w : WaitingPlaces) (n k : ℕ) → number_with w n k ≡ digits_number w.digits.items k + times k (take n w.places.items)
unfolding number_with
first_is w n k = refl

-- the last place that waits was counted
pub last_counted : (w v : WaitingPlaces) (last at : ℕ) → suc last ≡ length w.places.items → at ≡ get_or w.places.items last 0
    → Puts at (digits_number w.digits.items at + 1) (digits_number w.digits.items) (digits_number v.digits.items)
    → v.places.items ≡ take last w.places.items → HaveSameNumbers v w
last_counted w v last at is_last is puts places k within =
    let left : waiting_number v k ≡ digits_number v.digits.items k + times k (take last w.places.items) = number_is v k ∙ ap (λ (ps : List ℕ). digits_number v.digits.items k + times k ps) places in
    let all : waiting_number w k ≡ number_with w (suc last) k = sym (with_all w (suc last) k (omega (arith, is_last))) in
    let more = with_more w last k (omega (arith, is_last)) in
    let before : number_with w last k ≡ digits_number w.digits.items k + times k (take last w.places.items) = first_is w last k in
    elim (cases_eq at k) [
      | inl same ↦
          let counted : digits_number v.digits.items k ≡ digits_number w.digits.items k + 1 = rw (← same) puts.put in
          let here : bit (eqb (get_or w.places.items last 0) k) ≡ 1 = ap (λ (n : ℕ). bit (eqb n k)) (sym is ∙ same) ∙ one k in
          omega (arith, left, all, more, before, counted, here)
      | inr apart ↦
          let other = puts.others k (λ e. apart (sym e)) within in
          let absent : bit (eqb (get_or w.places.items last 0) k) ≡ 0 = none (get_or w.places.items last 0) k (λ e. apart (is ∙ e)) in
          omega (arith, left, all, more, before, other, absent)
    ]

-- a place was counted in new digits
pub counted_more : (w : WaitingPlaces) (i at n : ℕ) (f g : ℕ → ℕ) → i < length w.places.items → at ≡ get_or w.places.items i 0
    → n ≡ number_with w (i + 1) at → Puts at n f g → ((k : ℕ) → k < 16320 → f k ≡ number_with w i k)
    → (k : ℕ) → k < 16320 → g k ≡ number_with w (i + 1) k
counted_more w i at n f g less is number puts before k within = elim (cases_eq k at) [
  | inl same ↦ rw same (puts.put ∙ number)
  | inr apart ↦
      let more = with_more w i k less in
      let absent : bit (eqb (get_or w.places.items i 0) k) ≡ 0 = none (get_or w.places.items i 0) k (λ e. apart (sym (is ∙ e))) in
      let next : number_with w (i + 1) k ≡ number_with w (suc i) k = ap (λ m. number_with w m k) (omega arith) in
      let other = puts.others k apart within in
      let was = before k within in
      omega (arith, more, absent, next, other, was)
]

-- what holds after a call that failed
pub on_err : {T E P : Type 0} (r : Result T E) → P → OnErr r P
on_err (Ok t) p = tt
on_err (Err e) p = p

-- one digit a place is enough for the digits of a chunk
pub are_digits : (d e : List ℕ) → d ≡ e → length e ≡ 16320 → AreDigits d
are_digits d e same size = let is : length d ≡ 16320 = ap (length {A = ℕ}) same ∙ size in record { whole = ap (λ n. n % 16320) is; some = omega (arith, is) }
