-- Notes that are met once, and those that stay when these are forgotten.
use Rattle.std.proofs.Common.{◌≡◌, inl, inr, ℕ, zero, suc, ◌+◌, ◌<◌, ◌≤◌, Bool, true, false, cond, nat_eq, ◌||◌, get_or, set, List, [], ◌∷◌, ◌++◌, length, take, count_by, Some, refl, sym, ap, ap₂, ◌∙◌, subst, arith, append_assoc, eq-eqb}
use Rattle.std.specs.List.{list_any, slice_get}
use Rattle.std.proofs.lemmas.Bool.{cases_Bool, cases_eq, cases_lt, eqb-true, both_ways}
use Rattle.std.proofs.lemmas.Grind.{flat_map-append}
use Rattle.std.proofs.lemmas.List.{append-nil, get_or-set_same, get_or_past, length-set, take_more}
use Rattle.std.proofs.lemmas.List.Folds.{list_any-append}
use Rattle.std.proofs.lemmas.List.Sums.{sum_by-append}
use Rattle.std.proofs.lemmas.Option.{slice_get-get_or}
use Rattle.pd_image.proofs.BlockLemmas.{slice_get-set_other}
use Rattle.pd_salvage_shapes.specs.declared.note.LeafNote.{LeafNote}
use Rattle.pd_salvage_shapes.specs.declared.pieces.ShapedDevices.{ShapedDevices}
use Rattle.pd_salvage_shapes.specs.declared.tops.Top.{Top}
use Rattle.pd_salvage_shapes.specs.declared.visiting.Seen.{Seen}
use Rattle.pd_salvage_shapes.specs.Note.{IsNote, Met}
use Rattle.pd_salvage_shapes.specs.Once.{KeepsOthers, MeetOnce, all_met, is_spent}
use Rattle.pd_salvage_shapes.specs.Pieces.{AreRuns, HasPieces}
use Rattle.pd_salvage_shapes.specs.SeenShape.{AddsDevice, AreSized, AreUses}
use Rattle.pd_salvage_shapes.specs.Visiting.{mets_at, mets_of}
use Rattle.pd_salvage_shapes.proofs.TableLemmas.{note_runs}

-- how often a number stands among some
abbrev times_of : ℕ → List ℕ → ℕ
times_of k ks = count_by (λ n. nat_eq n k) ks

times_both : (k : ℕ) (xs ys : List ℕ) → times_of k (xs ++ ys) ≡ times_of k xs + times_of k ys
times_both k xs ys = sum_by-append (λ n. cond {A = ℕ} (nat_eq n k) 1 0) xs ys

none_any : (k : ℕ) (ks : List ℕ) → times_of k ks ≡ 0 → list_any (λ n. nat_eq n k) ks ≡ false
none_any k [] none = refl
none_any k (n ∷ ks) none =
    let both = times_both k (n ∷ []) ks in
    elim (cases_Bool (nat_eq n k)) [
      | inl here ↦ let one : times_of k (n ∷ []) ≡ 1 = rw here refl in absurd (omega arith)
      | inr other ↦ let nothing : times_of k (n ∷ []) ≡ 0 = rw other refl in rw other (none_any k ks (omega arith))
    ]

stands : (k : ℕ) (ks : List ℕ) (i : ℕ) → i < length ks → get_or ks i 0 ≡ k → 1 ≤ times_of k ks
stands k [] i within is = absurd (omega arith)
stands k (n ∷ ks) zero within is =
    let both = times_both k (n ∷ []) ks in
    let one : times_of k (n ∷ []) ≡ 1 = rw (eq-eqb n k is) refl in
    omega arith
stands k (n ∷ ks) (suc i) within is =
    let both = times_both k (n ∷ []) ks in
    let rest = stands k ks i (omega arith) is in
    omega arith

before : (k : ℕ) (ks : List ℕ) (i : ℕ) → i < length ks → get_or ks i 0 ≡ k → times_of k (take i ks) + 1 ≤ times_of k ks
before k [] i within is = absurd (omega arith)
before k (n ∷ ks) zero within is = stands k (n ∷ ks) zero within is
before k (n ∷ ks) (suc i) within is =
    let both = times_both k (n ∷ []) ks in
    let front = times_both k (n ∷ []) (take i ks) in
    let rest = before k ks i (omega arith) is in
    omega arith

-- a note that comes wasn't forgotten
pub unspent : (times met : List ℕ) (i : ℕ) → MeetOnce times met → i < length met → is_spent times (take i met) (get_or met i 0) ≡ false
unfolding is_spent
unspent times met i once within =
    let k = get_or met i 0 in
    elim (cases_Bool (nat_eq (get_or times k 0) 1)) [
      | inl one ↦
          let few = once k (eqb-true (get_or times k 0) 1 one) in
          let more = before k met i within refl in
          rw one (none_any k (take i met) (omega arith))
      | inr other ↦ rw other refl
    ]

neither : (x y : Bool) → (x || y) ≡ false → (x ≡ false) × (y ≡ false)
neither true y is = absurd (cc)
neither false y is = (refl, is)

spent_parts : (times xs ys : List ℕ) (k : ℕ) → is_spent times (xs ++ ys) k ≡ false → (is_spent times xs k ≡ false) × (is_spent times ys k ≡ false)
unfolding is_spent
spent_parts times xs ys k is = elim (cases_Bool (nat_eq (get_or times k 0) 1)) [
  | inl one ↦
      let any : (list_any (λ n. nat_eq n k) xs || list_any (λ n. nat_eq n k) ys) ≡ false = sym (list_any-append (λ n. nat_eq n k) xs ys) ∙ (rw one at is) in
      rw one (neither (list_any (λ n. nat_eq n k) xs) (list_any (λ n. nat_eq n k) ys) any)
  | inr other ↦ rw other (refl, refl)
]

pub kept_none : (times : List ℕ) (notes : List LeafNote) → KeepsOthers times [] notes notes
kept_none times notes = record { number = refl; same = λ k is. refl }

pub kept_more : (times xs ys : List ℕ) (first then' last : List LeafNote) → KeepsOthers times xs first then' → KeepsOthers times ys then' last → KeepsOthers times (xs ++ ys) first last
kept_more times xs ys first then' last front back = record {
  number = back.number ∙ front.number;
  same = λ k is. let parts = spent_parts times xs ys k is in back.same k parts.1 ∙ front.same k parts.0;
}

-- ---- a note that is forgotten

spent_itself : (times : List ℕ) (k : ℕ) → get_or times k 0 ≡ 1 → is_spent times (k ∷ []) k ≡ true
unfolding is_spent
spent_itself times k one = rw (eq-eqb (get_or times k 0) 1 one, eq-eqb k k refl) refl

pub forgotten : (times : List ℕ) (k : ℕ) (notes : List LeafNote) (none : LeafNote) → get_or times k 0 ≡ 1 → KeepsOthers times (k ∷ []) notes (set notes k none)
forgotten times k notes none one = record {
  number = length-set notes k none;
  same = λ j is. slice_get-set_other notes k j none (λ same. both_ways (is_spent times (k ∷ []) j) is (subst (λ (x : ℕ). is_spent times (k ∷ []) x ≡ true) (sym same) (spent_itself times k one)));
}

pub still_sized : (blocks k : ℕ) (notes : List LeafNote) (none : LeafNote) → k < length notes → none.full ≡ false → ((pool : ℕ) → IsNote pool none) → AreSized blocks notes → AreSized blocks (set notes k none)
still_sized blocks k notes none within part is sized = record {
  runs = λ j note at. elim (cases_eq j k) [
    | inl same ↦ subst (λ (n : LeafNote). AreRuns n.runs) (here j note same at) (note_runs 0 none (omega arith) (is 0))
    | inr other ↦ sized.runs j note (there j note other at)
  ];
  some = λ j note at full. elim (cases_eq j k) [
    | inl same ↦ absurd (both_ways note.full (subst (λ (n : LeafNote). n.full ≡ false) (here j note same at) part) full)
    | inr other ↦ sized.some j note (there j note other at) full
  ];
  within = λ j note at full. elim (cases_eq j k) [
    | inl same ↦ absurd (both_ways note.full (subst (λ (n : LeafNote). n.full ≡ false) (here j note same at) part) full)
    | inr other ↦ sized.within j note (there j note other at) full
  ];
}
  where
    here : (j : ℕ) (note : LeafNote) → j ≡ k → slice_get (set notes k none) j ≡ Some note → none ≡ note
    here j note same at =
        let number = length-set notes k none in
        let is : slice_get (set notes k none) k ≡ Some none =
        slice_get-get_or (set notes k none) k none (omega arith) ∙ ap Some (get_or-set_same notes k none none within) in
        let found : slice_get (set notes k none) k ≡ Some note = subst (λ (x : ℕ). slice_get (set notes k none) x ≡ Some note) same at in
        let e : Some none ≡ Some note = sym is ∙ found in
        cc

    there : (j : ℕ) (note : LeafNote) → (j ≡ k → ⊥) → slice_get (set notes k none) j ≡ Some note → slice_get notes j ≡ Some note
    there j note other at = sym (slice_get-set_other notes k j none other) ∙ at

-- ---- what notes met

pub mets_step : (notes : List LeafNote) (met : List ℕ) (i : ℕ) → i < length met
    → mets_of notes (take (i + 1) met) ≡ mets_of notes (take i met) ++ mets_at (slice_get notes (get_or met i 0))
mets_step notes met i within =
    ap (mets_of notes) (take_more met i 0 within)
    ∙ flat_map-append (λ k. mets_at (slice_get notes k)) (take i met) (get_or met i 0 ∷ [])
    ∙ ap (λ (ms : List Met). mets_of notes (take i met) ++ ms) (append-nil (mets_at (slice_get notes (get_or met i 0))))

same_mets : (old new : List LeafNote) (ks : List ℕ) → ((i : ℕ) → i < length ks → slice_get new (get_or ks i 0) ≡ slice_get old (get_or ks i 0)) → mets_of new ks ≡ mets_of old ks
same_mets old new [] same = refl
same_mets old new (k ∷ ks) same =
    ap₂ (λ (ms ns : List Met). ms ++ ns) (ap mets_at (same zero (omega arith))) (same_mets old new ks (λ i within. same (suc i) (omega arith)))

-- ---- the numbers that devices met

device_times : (k : ℕ) (seen : List Seen) (i : ℕ) (d : Seen) → i < length seen → get_or seen i d ≡ d
    → times_of k (all_met (take i seen)) + times_of k d.met ≤ times_of k (all_met seen)
device_times k [] i d within is = absurd (omega arith)
device_times k (e ∷ seen) zero d within is =
    let both = times_both k e.met (all_met seen) in
    let same : times_of k e.met ≡ times_of k d.met = ap (λ (x : Seen). times_of k x.met) is in
    omega arith
device_times k (e ∷ seen) (suc i) d within is =
    let both = times_both k e.met (all_met seen) in
    let front = times_both k e.met (all_met (take i seen)) in
    let rest = device_times k seen i d (omega arith) is in
    omega arith

module _ (times : List ℕ) (seen : List Seen) (once : MeetOnce times (all_met seen)) (i : ℕ) (d : Seen) (within : i < length seen) (is : get_or seen i d ≡ d) where
  pub device_once : MeetOnce times d.met
  device_once k one = let few = once k one in let part = device_times k seen i d within is in omega arith

  device_unspent : (j : ℕ) → j < length d.met → is_spent times (all_met (take i seen)) (get_or d.met j 0) ≡ false
  unfolding is_spent
  device_unspent j inside =
      let k = get_or d.met j 0 in
      elim (cases_Bool (nat_eq (get_or times k 0) 1)) [
        | inl one ↦
            let few = once k (eqb-true (get_or times k 0) 1 one) in
            let part = device_times k seen i d within is in
            let here = stands k d.met j inside refl in
            rw one (none_any k (all_met (take i seen)) (omega arith))
        | inr other ↦ rw other refl
      ]

  -- of a device that comes all notes are still there
  module _ (old new : List LeafNote) (kept : KeepsOthers times (all_met (take i seen)) old new) where
    still_met : mets_of new d.met ≡ mets_of old d.met
    still_met = same_mets old new d.met (λ j inside. kept.same (get_or d.met j 0) (device_unspent j inside))

    pub still_adds : (numbers : List ℕ) (t : Top) (first then' : ShapedDevices) → AddsDevice new numbers t d first then' → AddsDevice old numbers t d first then'
    still_adds numbers t first then' adds = record {
      count = adds.count;
      takes = record {
        idle = adds.takes.idle;
        has = λ ones are. subst (λ (ms : List Met). HasPieces ones first.piecing.pieces.items first.piecing.runs then'.piecing ms) still_met (adds.takes.has ones are);
        counted = adds.takes.counted;
      };
      added = adds.added;
    }

    pub kept_next : (later : List LeafNote) → KeepsOthers times d.met new later → KeepsOthers times (all_met (take (i + 1) seen)) old later
    kept_next later more =
        subst (λ (ks : List ℕ). KeepsOthers times ks old later)
        (sym (ap all_met (take_more seen i d within ∙ ap (λ (e : Seen). take i seen ++ e ∷ []) is)
        ∙ flat_map-append (λ (e : Seen). e.met) (take i seen) (d ∷ [])
        ∙ ap (λ (ks : List ℕ). all_met (take i seen) ++ ks) (append-nil d.met)))
        (kept_more times (all_met (take i seen)) d.met old new later kept more)

-- ---- how often notes are met

pub numbers_next : (before met times : List ℕ) (i k : ℕ) → i < length met → k ≡ get_or met i 0 → AreUses ((before ++ take i met) ++ k ∷ []) times
    → AreUses (before ++ take (i + 1) met) times
numbers_next before met times i k within is are =
    subst (λ (ks : List ℕ). AreUses ks times)
    (append_assoc before (take i met) (k ∷ [])
    ∙ ap (λ (ks : List ℕ). before ++ ks) (ap (λ (n : ℕ). take i met ++ n ∷ []) is ∙ sym (take_more met i 0 within))) are

pub devices_next : (seen : List Seen) (times : List ℕ) (i : ℕ) (d : Seen) → i < length seen → d ≡ get_or seen i d → AreUses (all_met (take i seen) ++ d.met) times → AreUses (all_met (take (i + 1) seen)) times
devices_next seen times i d within is are =
    subst (λ (ks : List ℕ). AreUses ks times)
    (sym (ap all_met (take_more seen i d within ∙ ap (λ (e : Seen). take i seen ++ e ∷ []) (sym is))
    ∙ flat_map-append (λ (e : Seen). e.met) (take i seen) (d ∷ [])
    ∙ ap (λ (ks : List ℕ). all_met (take i seen) ++ ks) (append-nil d.met))) are

-- so those of which one meeting was counted are met once
pub meet_once : (times met : List ℕ) → AreUses met times → MeetOnce times met
meet_once times met are k one = elim (cases_lt k (length times)) [
  | inl within ↦ let count = are k within in omega arith
  | inr past ↦ let none = get_or_past times k 0 past in absurd (omega arith)
]
