-- Packed runs come back, and a run that is put behind them.
use Rattle.std.proofs.Common.{◌≡◌, ℕ, ◌+◌, ◌-◌, ◌*◌, ◌/◌, ◌%◌, ◌^◌, ◌<◌, ◌≤◌, true, false, ◌&&◌, nat_eq, nat_lt, inl, inr, List, [], ◌++◌, length, Option, Some, None, refl, sym, ap, subst, ◌∙◌, append_assoc, length-append, arith, zero, suc, ◌∷◌}
use Rattle.std.proofs.Math.Nat.{add-mod_right, mod-eq_of_lt, mod-lt}
use Rattle.std.specs.List.{AllByRecursion}
use Rattle.std.proofs.lemmas.Bool.{and_parts, cases_Bool, cases_eq, cases_lt, eqb-true, le-ltb, lt-ltb, ltb-true, ne_eqb}
use Rattle.std.proofs.lemmas.List.{append-nil}
use Rattle.pd_meaning_thin.specs.declared.joined.Run.{Run}
use Rattle.pd_meaning_thin.specs.Packed.{distance, folded, moved, unfolded, number_at, packed_number, FitsRun, packed_run, placed, run_at, last_run, no_run, packed, run_and_more, unpacked, unpacked_within}
use Rattle.pd_meaning_thin.specs.Packed.{changed_at, is_single, other_at, packed_numbers, packed_other, packed_single, run_of_first, run_with_first, single_at}
use Rattle.pd_meaning_thin.proofs.NumberLemmas.{distance-fits, folded-fits, moved-distance, moved-fits, unfolded-folded, length-packed_number, number_at-fits, number_at-none, number_at-packed, number_at-shorter}

-- A run comes back from its bytes, whatever follows.

-- ---- the first number, and the others

pub run_at-first : (before : Run) (bytes : List ℕ) (first : ℕ × List ℕ) → number_at bytes ≡ Some first
    → run_at before bytes ≡ run_of_first before first.0 first.1
unfolding run_at
run_at-first before bytes first is = ap (run_with_first before) is

pub run_at-no_first : (before : Run) (bytes : List ℕ) → number_at bytes ≡ None → run_at before bytes ≡ None
unfolding run_at
run_at-no_first before bytes is = ap (run_with_first before) is

pub run_at-none : (before : Run) → run_at before [] ≡ None
run_at-none before = run_at-no_first before [] number_at-none

pub first-single : (before : Run) (first : ℕ) (bytes : List ℕ) → first % 2 ≡ 1 → run_of_first before first bytes ≡ single_at before first bytes
unfolding run_of_first
first-single before first bytes odd = rw odd refl

pub first-other : (before : Run) (first : ℕ) (bytes : List ℕ) → first % 2 ≡ 0 → run_of_first before first bytes ≡ other_at before (first / 2) bytes
unfolding run_of_first
first-other before first bytes even = rw even refl

pub single-same : (before : Run) (first : ℕ) (bytes : List ℕ) → first % 4 ≡ 1
    → single_at before first bytes ≡ Some (placed before 0 (first / 4) 1 0, bytes)
unfolding single_at
single-same before first bytes is = rw is refl

pub single-changed : (before : Run) (first : ℕ) (bytes : List ℕ) → (first % 4 ≡ 1 → ⊥)
    → single_at before first bytes ≡ changed_at before (first / 4) (number_at bytes)
unfolding single_at
single-changed before first bytes other = rw (ne_eqb (first % 4) 1 other) refl

pub other-numbers : (before : Run) (change : ℕ) (bytes : List ℕ) (gap step length : ℕ × List ℕ)
    → number_at bytes ≡ Some gap → number_at gap.1 ≡ Some step → number_at step.1 ≡ Some length
    → other_at before change bytes ≡ Some (placed before gap.0 step.0 length.0 change, length.1)
unfolding other_at
other-numbers before change bytes gap step length one two three = rw one (rw two (rw three refl))

pub other-no_gap : (before : Run) (change : ℕ) (bytes : List ℕ) → number_at bytes ≡ None → other_at before change bytes ≡ None
unfolding other_at
other-no_gap before change bytes one = rw one refl

pub other-no_step : (before : Run) (change : ℕ) (bytes : List ℕ) (gap : ℕ × List ℕ) → number_at bytes ≡ Some gap → number_at gap.1 ≡ None
    → other_at before change bytes ≡ None
unfolding other_at
other-no_step before change bytes gap one two = rw one (rw two refl)

pub other-no_length : (before : Run) (change : ℕ) (bytes : List ℕ) (gap step : ℕ × List ℕ) → number_at bytes ≡ Some gap
    → number_at gap.1 ≡ Some step → number_at step.1 ≡ None → other_at before change bytes ≡ None
unfolding other_at
other-no_length before change bytes gap step one two three = rw one (rw two (rw three refl))

-- ---- the way back

abbrev made : ℕ → ℕ → ℕ → ℕ → Run
made virt target blocks time = record { virt = virt; target = target; length = blocks; time = time }

same_run : (a b : Run) → a.virt ≡ b.virt → a.target ≡ b.target → a.length ≡ b.length → a.time ≡ b.time → a ≡ b
same_run a b one two three four =
    ap (λ (virt : ℕ). made virt a.target a.length a.time) one
    ∙ ap (λ (target : ℕ). made b.virt target a.length a.time) two
    ∙ ap (λ (blocks : ℕ). made b.virt b.target blocks a.time) three
    ∙ ap (λ (time : ℕ). made b.virt b.target b.length time) four

placed-packed : (before run : Run) → FitsRun before → FitsRun run
    → placed before (distance (moved before.virt before.length) run.virt)
    (folded (distance (moved before.target before.length) run.target)) run.length
    (folded (distance before.time run.time)) ≡ run
unfolding placed
placed-packed before run there here =
    let target = moved before.target before.length in
    same_run _ run
    (moved-distance (moved before.virt before.length) run.virt (moved-fits before.virt before.length) here.virt_fits)
    (ap (moved target) (unfolded-folded (distance target run.target) (distance-fits target run.target))
    ∙ moved-distance target run.target (moved-fits before.target before.length) here.target_fits)
    refl
    (ap (λ (change : ℕ). moved before.time change % 2 ^ 32)
    (unfolded-folded (distance before.time run.time) (distance-fits before.time run.time))
    ∙ ap (λ (time : ℕ). time % 2 ^ 32)
    (moved-distance before.time run.time (let f : before.time < 2 ^ 32 = there.time_fits in omega arith)
    (let f : run.time < 2 ^ 32 = here.time_fits in omega arith))
    ∙ mod-eq_of_lt here.time_fits)

-- ---- the numbers come back

single-parts : (gap step length : ℕ) → is_single gap step length ≡ true → (gap ≡ 0) × (length ≡ 1) × (step < 2 ^ 62)
unfolding is_single
single-parts gap step length is =
    let first = and_parts (nat_eq gap 0) (nat_eq length 1 && nat_lt step (2 ^ 62)) is in
    let rest = and_parts (nat_eq length 1) (nat_lt step (2 ^ 62)) first.1 in
    (eqb-true gap 0 first.0, eqb-true length 1 rest.0, ltb-true step (2 ^ 62) rest.1)

single-unchanged : (step change : ℕ) → change ≡ 0 → packed_single step change ≡ packed_number (step * 4 + 1)
unfolding packed_single
single-unchanged step change none = rw none refl

single-moved : (step change : ℕ) → (change ≡ 0 → ⊥) → packed_single step change ≡ packed_number (step * 4 + 3) ++ packed_number change
unfolding packed_single
single-moved step change some = rw (ne_eqb change 0 some) refl

back-unchanged : (before : Run) (step : ℕ) (bytes : List ℕ) → step < 2 ^ 62
    → run_at before (packed_number (step * 4 + 1) ++ bytes) ≡ Some (placed before 0 step 1 0, bytes)
back-unchanged before step bytes small =
    let first = step * 4 + 1 in
    run_at-first before (packed_number first ++ bytes) (first, bytes) (number_at-packed first bytes (omega arith))
    ∙ first-single before first bytes (omega arith)
    ∙ single-same before first bytes (omega arith)
    ∙ ap (λ (up : ℕ). Some (placed before 0 up 1 0, bytes)) (omega arith)

back-moved : (before : Run) (step change : ℕ) (bytes : List ℕ) → step < 2 ^ 62 → change < 2 ^ 63
    → run_at before (packed_number (step * 4 + 3) ++ (packed_number change ++ bytes)) ≡ Some (placed before 0 step 1 change, bytes)
back-moved before step change bytes small fits =
    let first = step * 4 + 3 in
    let rest = packed_number change ++ bytes in
    run_at-first before (packed_number first ++ rest) (first, rest) (number_at-packed first rest (omega arith))
    ∙ first-single before first rest (omega arith)
    ∙ single-changed before first rest (λ same. omega arith)
    ∙ ap (changed_at before (first / 4)) (number_at-packed change bytes (omega arith))
    ∙ ap (λ (up : ℕ). Some (placed before 0 up 1 change, bytes)) (omega arith)

back-single : (before : Run) (step change : ℕ) (bytes : List ℕ) → step < 2 ^ 62 → change < 2 ^ 63
    → run_at before (packed_single step change ++ bytes) ≡ Some (placed before 0 step 1 change, bytes)
back-single before step change bytes small fits = elim (cases_eq change 0) [
  | inl none ↦
      ap (λ (front : List ℕ). run_at before (front ++ bytes)) (single-unchanged step change none)
      ∙ back-unchanged before step bytes small
      ∙ ap (λ (by : ℕ). Some (placed before 0 step 1 by, bytes)) (sym none)
  | inr some ↦
      ap (λ (front : List ℕ). run_at before (front ++ bytes)) (single-moved step change some)
      ∙ ap (run_at before) (append_assoc (packed_number (step * 4 + 3)) (packed_number change) bytes)
      ∙ back-moved before step change bytes small fits
]

back-other : (before : Run) (gap step length change : ℕ) (bytes : List ℕ) → gap < 2 ^ 64 → step < 2 ^ 64 → length < 2 ^ 64 → change < 2 ^ 63
    → run_at before (packed_other gap step length change ++ bytes) ≡ Some (placed before gap step length change, bytes)
unfolding packed_other
back-other before gap step length change bytes gap_fits step_fits length_fits change_fits =
    let first = change * 2 in
    let behind = packed_number length ++ bytes in
    let rest = packed_number gap ++ (packed_number step ++ behind) in
    simp append_assoc
    (run_at-first before (packed_number first ++ rest) (first, rest) (number_at-packed first rest (omega arith))
    ∙ first-other before first rest (omega arith)
    ∙ ap (λ (by : ℕ). other_at before by rest) (omega arith)
    ∙ other-numbers before change rest (gap, packed_number step ++ behind) (step, behind) (length, bytes)
    (number_at-packed gap (packed_number step ++ behind) gap_fits)
    (number_at-packed step behind step_fits)
    (number_at-packed length bytes length_fits))

back-numbers : (before : Run) (gap step length change : ℕ) (bytes : List ℕ) → gap < 2 ^ 64 → step < 2 ^ 64 → length < 2 ^ 64 → change < 2 ^ 63
    → run_at before (packed_numbers gap step length change ++ bytes) ≡ Some (placed before gap step length change, bytes)
unfolding packed_numbers
back-numbers before gap step length change bytes gap_fits step_fits length_fits change_fits = elim (cases_Bool (is_single gap step length)) [
  | inl single ↦
      let parts = single-parts gap step length single in
      rw single
      (back-single before step change bytes parts.2 change_fits
      ∙ ap (λ (to : ℕ). Some (placed before to step 1 change, bytes)) (sym parts.0)
      ∙ ap (λ (blocks : ℕ). Some (placed before gap step blocks change, bytes)) (sym parts.1))
  | inr other ↦ rw other (back-other before gap step length change bytes gap_fits step_fits length_fits change_fits)
]

-- the change of a time is small
pub change-up : (before time : ℕ) → before ≤ time → time < 2 ^ 32 → folded (distance before time) ≡ (time - before) * 2
unfolding folded
change-up before time up fits =
    let by : distance before time ≡ time - before = ap (λ (whole : ℕ). whole % 2 ^ 64) (omega arith) ∙ add-mod_right (time - before) (2 ^ 64) ∙ mod-eq_of_lt (omega arith) in
    rw by (rw (lt-ltb (time - before) (2 ^ 63) (omega arith)) refl)

pub change-down : (before time : ℕ) → time < before → before < 2 ^ 32 → folded (distance before time) ≡ (before - time) * 2 - 1
unfolding folded
change-down before time down fits =
    let by : distance before time ≡ 2 ^ 64 - (before - time) = mod-eq_of_lt (omega arith) ∙ omega arith in
    rw by (rw (le-ltb (2 ^ 64 - (before - time)) (2 ^ 63) (omega arith)) (omega arith))

pub change-small : (before time : ℕ) → before < 2 ^ 32 → time < 2 ^ 32 → folded (distance before time) < 2 ^ 63
change-small before time there here = elim (cases_lt time before) [
  | inl down ↦ rw (change-down before time down there) (omega arith)
  | inr up ↦ rw (change-up before time up here) (omega arith)
]

-- a run comes back
pub run_at-packed : (before run : Run) (bytes : List ℕ) → FitsRun before → FitsRun run
    → run_at before (packed_run before run ++ bytes) ≡ Some (run, bytes)
unfolding packed_run
run_at-packed before run bytes there here =
    let from = moved before.virt before.length in
    let target = distance (moved before.target before.length) run.target in
    back-numbers before (distance from run.virt) (folded target) run.length (folded (distance before.time run.time)) bytes
    (distance-fits from run.virt) (folded-fits target (distance-fits (moved before.target before.length) run.target)) here.length_fits
    (change-small before.time run.time there.time_fits here.time_fits)
    ∙ ap (λ (back : Run). Some (back, bytes)) (placed-packed before run there here)

-- its numbers as they are put
pub packed_run-single : (before run : Run) (gap step change : ℕ)
    → gap ≡ distance (moved before.virt before.length) run.virt → step ≡ folded (distance (moved before.target before.length) run.target)
    → change ≡ folded (distance before.time run.time) → is_single gap step run.length ≡ true → packed_run before run ≡ packed_single step change
unfolding packed_run packed_numbers
packed_run-single before run gap step change gap_is step_is change_is single = rw (← gap_is, ← step_is, ← change_is, single) refl

pub packed_run-other : (before run : Run) (gap step change : ℕ)
    → gap ≡ distance (moved before.virt before.length) run.virt → step ≡ folded (distance (moved before.target before.length) run.target)
    → change ≡ folded (distance before.time run.time) → is_single gap step run.length ≡ false
    → packed_run before run ≡ packed_other gap step run.length change
unfolding packed_run packed_numbers
packed_run-other before run gap step change gap_is step_is change_is other = rw (← gap_is, ← step_is, ← change_is, other) refl

pub put-unchanged : (old new : List ℕ) (step change : ℕ) → change ≡ 0 → new ≡ old ++ packed_number (step * 4 + 1) → new ≡ old ++ packed_single step change
put-unchanged old new step change none is = is ∙ ap (λ (bytes : List ℕ). old ++ bytes) (sym (single-unchanged step change none))

pub put-moved : (old first new : List ℕ) (step change : ℕ) → (change ≡ 0 → ⊥) → first ≡ old ++ packed_number (step * 4 + 3)
    → new ≡ first ++ packed_number change → new ≡ old ++ packed_single step change
put-moved old first new step change some one two =
    two ∙ ap (λ (front : List ℕ). front ++ packed_number change) one
    ∙ append_assoc old (packed_number (step * 4 + 3)) (packed_number change)
    ∙ ap (λ (bytes : List ℕ). old ++ bytes) (sym (single-moved step change some))

pub put-other : (gap step length change : ℕ) (none one two three four : List ℕ) → one ≡ none ++ packed_number (change * 2)
    → two ≡ one ++ packed_number gap → three ≡ two ++ packed_number step → four ≡ three ++ packed_number length
    → four ≡ none ++ packed_other gap step length change
unfolding packed_other
put-other gap step length change none one two three four first second third fourth =
    rw (fourth, third, second, first) (simp append_assoc)

length-front : (front rest : List ℕ) → 1 ≤ length front → 1 ≤ length (front ++ rest)
length-front front rest some = rw length-append (omega arith)

length-single : (step change : ℕ) → 1 ≤ length (packed_single step change)
length-single step change = elim (cases_eq change 0) [
  | inl none ↦ rw (single-unchanged step change none) (length-packed_number (step * 4 + 1))
  | inr some ↦ rw (single-moved step change some) (length-front (packed_number (step * 4 + 3)) (packed_number change) (length-packed_number (step * 4 + 3)))
]

length-other : (gap step blocks change : ℕ) → 1 ≤ length (packed_other gap step blocks change)
unfolding packed_other
length-other gap step blocks change =
    length-front (packed_number (change * 2)) (packed_number gap ++ (packed_number step ++ packed_number blocks)) (length-packed_number (change * 2))

length-numbers : (gap step blocks change : ℕ) → 1 ≤ length (packed_numbers gap step blocks change)
unfolding packed_numbers
length-numbers gap step blocks change = elim (cases_Bool (is_single gap step blocks)) [
  | inl single ↦ rw single (length-single step change)
  | inr other ↦ rw other (length-other gap step blocks change)
]

pub length-packed_run : (before run : Run) → 1 ≤ length (packed_run before run)
unfolding packed_run
length-packed_run before run =
    length-numbers (distance (moved before.virt before.length) run.virt) (folded (distance (moved before.target before.length) run.target))
    run.length (folded (distance before.time run.time))

-- ---- what is left behind a run

placed-fits : (before : Run) (gap step length change : ℕ) → length < 2 ^ 64 → FitsRun (placed before gap step length change)
unfolding placed
placed-fits before gap step length change fits = record {
  virt_fits = moved-fits (moved before.virt before.length) gap;
  target_fits = moved-fits (moved before.target before.length) (unfolded step);
  length_fits = fits;
  time_fits = mod-lt (moved before.time (unfolded change)) (omega arith);
}

-- it fits, and no more bytes are left than there were
record LeavesRest (bytes : List ℕ) (got : Run × List ℕ) : Type 0 where
  fits : FitsRun got.0
  few : length got.1 ≤ length bytes

leaves : (bytes rest : List ℕ) (run : Run) (got : Run × List ℕ) → Some (run, rest) ≡ Some got → FitsRun run → length rest ≤ length bytes
    → LeavesRest bytes got
leaves bytes rest run got is fits few =
    let same : (run, rest) ≡ got = cc in
    subst (λ (one : Run × List ℕ). LeavesRest bytes one) same (record { fits = fits; few = few })

with_change : (before : Run) (step : ℕ) (bytes : List ℕ) (change : Option (ℕ × List ℕ)) (got : Run × List ℕ) → number_at bytes ≡ change
    → changed_at before step change ≡ Some got → LeavesRest bytes got
with_change before step bytes None got one is = absurd (cc)
with_change before step bytes (Some change) got one is =
    leaves bytes change.1 (placed before 0 step 1 change.0) got is (placed-fits before 0 step 1 change.0 (omega arith))
    (omega (arith, number_at-shorter bytes change one))

of_single : (before : Run) (first : ℕ) (bytes : List ℕ) (got : Run × List ℕ) → single_at before first bytes ≡ Some got → LeavesRest bytes got
of_single before first bytes got is = elim (cases_eq (first % 4) 1) [
  | inl same ↦
      leaves bytes bytes (placed before 0 (first / 4) 1 0) got (sym (single-same before first bytes same) ∙ is)
      (placed-fits before 0 (first / 4) 1 0 (omega arith)) (omega arith)
  | inr other ↦ with_change before (first / 4) bytes (number_at bytes) got refl (sym (single-changed before first bytes other) ∙ is)
]

with_length : (before : Run) (by : ℕ) (bytes : List ℕ) (got : Run × List ℕ) (gap step : ℕ × List ℕ) (length : Option (ℕ × List ℕ))
    → number_at bytes ≡ Some gap → number_at gap.1 ≡ Some step → number_at step.1 ≡ length
    → other_at before by bytes ≡ Some got → LeavesRest bytes got
with_length before by bytes got gap step None one two three is =
    absurd (let e = sym is ∙ other-no_length before by bytes gap step one two three in cc)
with_length before by bytes got gap step (Some length) one two three is =
    leaves bytes length.1 (placed before gap.0 step.0 length.0 by) got (sym (other-numbers before by bytes gap step length one two three) ∙ is)
    (placed-fits before gap.0 step.0 length.0 by (number_at-fits step.1 length three))
    (omega (arith, number_at-shorter bytes gap one, number_at-shorter gap.1 step two, number_at-shorter step.1 length three))

with_step : (before : Run) (by : ℕ) (bytes : List ℕ) (got : Run × List ℕ) (gap : ℕ × List ℕ) (step : Option (ℕ × List ℕ))
    → number_at bytes ≡ Some gap → number_at gap.1 ≡ step → other_at before by bytes ≡ Some got → LeavesRest bytes got
with_step before by bytes got gap None one two is = absurd (let e = sym is ∙ other-no_step before by bytes gap one two in cc)
with_step before by bytes got gap (Some step) one two is = with_length before by bytes got gap step (number_at step.1) one two refl is

with_gap : (before : Run) (by : ℕ) (bytes : List ℕ) (got : Run × List ℕ) (gap : Option (ℕ × List ℕ))
    → number_at bytes ≡ gap → other_at before by bytes ≡ Some got → LeavesRest bytes got
with_gap before by bytes got None one is = absurd (let e = sym is ∙ other-no_gap before by bytes one in cc)
with_gap before by bytes got (Some gap) one is = with_step before by bytes got gap (number_at gap.1) one refl is

of_first : (before : Run) (first : ℕ) (bytes : List ℕ) (got : Run × List ℕ) → run_of_first before first bytes ≡ Some got → LeavesRest bytes got
of_first before first bytes got is = elim (cases_eq (first % 2) 1) [
  | inl odd ↦ of_single before first bytes got (sym (first-single before first bytes odd) ∙ is)
  | inr even ↦ with_gap before (first / 2) bytes got (number_at bytes) refl (sym (first-other before first bytes (omega arith)) ∙ is)
]

-- it fits, and fewer bytes are left
record LeavesFewer (bytes : List ℕ) (got : Run × List ℕ) : Type 0 where
  fits : FitsRun got.0
  fewer : length got.1 < length bytes

with_first : (before : Run) (bytes : List ℕ) (got : Run × List ℕ) (first : Option (ℕ × List ℕ)) → number_at bytes ≡ first
    → run_at before bytes ≡ Some got → LeavesFewer bytes got
with_first before bytes got None one is = absurd (let e = sym is ∙ run_at-no_first before bytes one in cc)
with_first before bytes got (Some first) one is =
    let rest = of_first before first.0 first.1 got (sym (run_at-first before bytes first one) ∙ is) in
    let few = rest.few in
    record { fits = rest.fits; fewer = omega (arith, number_at-shorter bytes first one) }

-- fewer bytes are left
pub run_at-shorter : (before : Run) (bytes : List ℕ) (got : Run × List ℕ) → run_at before bytes ≡ Some got → length got.1 < length bytes
run_at-shorter before bytes got is = (with_first before bytes got (number_at bytes) refl is).fewer

-- whatever the bytes are, the run fits
pub run_at-fits : (before : Run) (bytes : List ℕ) (got : Run × List ℕ) → run_at before bytes ≡ Some got → FitsRun got.0
run_at-fits before bytes got is = (with_first before bytes got (number_at bytes) refl is).fits

-- ---- run by run

run_and_more-same : (o : Option (Run × List ℕ)) (f g : Run → List ℕ → List Run)
    → ((got : Run × List ℕ) → o ≡ Some got → f got.0 got.1 ≡ g got.0 got.1) → run_and_more o f ≡ run_and_more o g
run_and_more-same None f g same = refl
run_and_more-same (Some got) f g same = ap (λ (runs : List Run). got.0 ∷ runs) (same got refl)

unpacked_within-none : (most : ℕ) (before : Run) (bytes : List ℕ) → run_at before bytes ≡ None → unpacked_within most before bytes ≡ []
unfolding unpacked_within
unpacked_within-none zero before bytes is = refl
unpacked_within-none (suc most) before bytes is = rw is refl

-- further runs change nothing
unpacked_within-more : (most others : ℕ) (before : Run) (bytes : List ℕ) → length bytes ≤ most → length bytes ≤ others
    → unpacked_within most before bytes ≡ unpacked_within others before bytes
unfolding unpacked_within
unpacked_within-more zero others before [] few many = sym (unpacked_within-none others before [] (run_at-none before))
unpacked_within-more zero others before (byte ∷ bytes) few many = absurd (omega arith)
unpacked_within-more (suc most) zero before [] few many = unpacked_within-none (suc most) before [] (run_at-none before)
unpacked_within-more (suc most) zero before (byte ∷ bytes) few many = absurd (omega arith)
unpacked_within-more (suc most) (suc others) before bytes few many =
    run_and_more-same (run_at before bytes) (unpacked_within most) (unpacked_within others)
    (λ got is. unpacked_within-more most others got.0 got.1 (omega (arith, run_at-shorter before bytes got is))
    (omega (arith, run_at-shorter before bytes got is)))

unpacked_within-next : (most : ℕ) (before : Run) (bytes : List ℕ) (got : Run × List ℕ) → run_at before bytes ≡ Some got
    → unpacked_within (suc most) before bytes ≡ got.0 ∷ unpacked_within most got.0 got.1
unfolding unpacked_within
unpacked_within-next most before bytes got is = rw is refl

pub unpacked-none : (before : Run) (bytes : List ℕ) → run_at before bytes ≡ None → unpacked before bytes ≡ []
unfolding unpacked
unpacked-none before bytes is = unpacked_within-none (length bytes) before bytes is

pub unpacked-next : (before : Run) (bytes : List ℕ) (got : Run × List ℕ) → run_at before bytes ≡ Some got
    → unpacked before bytes ≡ got.0 ∷ unpacked got.0 got.1
unfolding unpacked
unpacked-next before [] got is = absurd (let e = sym (run_at-none before) ∙ is in cc)
unpacked-next before (byte ∷ bytes) got is =
    unpacked_within-next (length bytes) before (byte ∷ bytes) got is
    ∙ ap (λ (runs : List Run). got.0 ∷ runs)
    (unpacked_within-more (length bytes) (length got.1) got.0 got.1
    (omega (arith, run_at-shorter before (byte ∷ bytes) got is)) (omega arith))

pub unpacked-empty : (before : Run) → unpacked before [] ≡ []
unpacked-empty before = unpacked-none before [] (run_at-none before)

-- ---- they fit

AllFit-more : (o : Option (Run × List ℕ)) (f : Run → List ℕ → List Run)
    → ((got : Run × List ℕ) → o ≡ Some got → FitsRun got.0 × AllByRecursion FitsRun (f got.0 got.1)) → AllByRecursion FitsRun (run_and_more o f)
AllFit-more None f fit = tt
AllFit-more (Some got) f fit = fit got refl

AllFit-within : (most : ℕ) (before : Run) (bytes : List ℕ) → AllByRecursion FitsRun (unpacked_within most before bytes)
unfolding unpacked_within
AllFit-within zero before bytes = tt
AllFit-within (suc most) before bytes =
    AllFit-more (run_at before bytes) (unpacked_within most)
    (λ got is. (run_at-fits before bytes got is, AllFit-within most got.0 got.1))

pub AllFit-unpacked : (before : Run) (bytes : List ℕ) → AllByRecursion FitsRun (unpacked before bytes)
unfolding unpacked
AllFit-unpacked before bytes = AllFit-within (length bytes) before bytes

pub AllFit-append : (runs more : List Run) → AllByRecursion FitsRun runs → AllByRecursion FitsRun more → AllByRecursion FitsRun (runs ++ more)
AllFit-append [] more fit fits = fits
AllFit-append (run ∷ runs) more fit fits = (fit.0, AllFit-append runs more fit.1 fits)

pub Fits-last : (before : Run) (runs : List Run) → FitsRun before → AllByRecursion FitsRun runs → FitsRun (last_run before runs)
unfolding last_run
Fits-last before [] fits fit = fits
Fits-last before (run ∷ runs) fits fit = Fits-last run runs fit.0 fit.1

-- ---- the way back

-- packed runs come back
pub unpacked-packed : (before : Run) (runs : List Run) → FitsRun before → AllByRecursion FitsRun runs → unpacked before (packed before runs) ≡ runs
unfolding packed
unpacked-packed before [] fits fit = unpacked-empty before
unpacked-packed before (run ∷ runs) fits fit =
    unpacked-next before (packed_run before run ++ packed run runs) (run, packed run runs)
    (run_at-packed before run (packed run runs) fits fit.0)
    ∙ ap (λ (more : List Run). run ∷ more) (unpacked-packed run runs fit.0 fit.1)

pub packed-push : (before : Run) (runs : List Run) (run : Run)
    → packed before (runs ++ run ∷ []) ≡ packed before runs ++ packed_run (last_run before runs) run
unfolding packed last_run
packed-push before [] run = append-nil (packed_run before run)
packed-push before (first ∷ runs) run =
    ap (λ (bytes : List ℕ). packed_run before first ++ bytes) (packed-push first runs run)
    ∙ sym (append_assoc (packed_run before first) (packed first runs) (packed_run (last_run first runs) run))

pub last_run-append : (before : Run) (runs more : List Run) → last_run before (runs ++ more) ≡ last_run (last_run before runs) more
unfolding last_run
last_run-append before [] more = refl
last_run-append before (run ∷ runs) more = last_run-append run runs more

pub last_run-push : (before : Run) (runs : List Run) (run : Run) → last_run before (runs ++ run ∷ []) ≡ run
unfolding last_run
last_run-push before runs run = last_run-append before runs (run ∷ [])

pub no_run-fits : FitsRun no_run
no_run-fits = record { virt_fits = omega arith; target_fits = omega arith; length_fits = omega arith; time_fits = omega arith }
