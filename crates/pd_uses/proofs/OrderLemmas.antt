-- Uses that are in the order of their blocks as they stand, and their lines.
use Rattle.std.proofs.Common.{◌≡◌, ℕ, zero, suc, ◌+◌, ◌-◌, ◌^◌, ◌<◌, ◌≤◌, min, List, [], ◌∷◌, ◌++◌, drop, get_or, length, map, take, refl, sym, ap, ◌∙◌, arith}
use Rattle.std.specs.List.{AllByRecursion, flat_map, range_with_len}
use Rattle.std.proofs.lemmas.List.{append-nil, map-append, take-append-drop, take_more}
use Rattle.std.proofs.lemmas.List.Concat.{flat_map-append}
use Rattle.pd_kinds.proofs.NumberLemmas.{range_split}
use Rattle.pd_lines.specs.Printing.{Begun, Printed, Printing}
use Rattle.pd_lines.proofs.Printing.{begun_after, begun_first}
use Rattle.pd_uses.specs.declared.found.Visit.{Visit}
use Rattle.pd_uses.specs.declared.hit_runs.HitRun.{HitRun}
use Rattle.pd_uses.specs.declared.hits.DataUse.{DataUse}
use Rattle.pd_uses.specs.declared.hits.Hit.{Hit}
use Rattle.pd_uses.specs.FoundUses.{leaf_at, visit_uses, visits_uses}
use Rattle.pd_uses.specs.Hits.{run_hit, run_hits, runs_hits, use_of}
use Rattle.pd_uses.specs.InOrder.{Rises, RisesFrom, last_from, place_line, run_text, visit_text}
use Rattle.pd_uses.specs.Uses.{ordered_uses, use_line, uses_text}
use Rattle.pd_uses.proofs.FoundLemmas.{uses_last}
use Rattle.pd_uses.proofs.LineLemmas.{BlocksRise, grouped}
use Rattle.pd_uses.proofs.RunLemmas.{runs_so_far}

-- uses that rise from a block on rise from a lesser one on
lower : (a b end : ℕ) (uses : List DataUse) → a ≤ b → RisesFrom b end uses → RisesFrom a end uses
lower a b end [] less rise = tt
lower a b end (one ∷ uses) less rise = let first = rise.0 in (omega arith, rise.1)

-- one after another
rise_both : (at end mid : ℕ) (xs ys : List DataUse) → RisesFrom at end xs → last_from at xs ≤ mid → RisesFrom mid end ys → RisesFrom at end (xs ++ ys)
rise_both at end mid [] ys first most second = lower at mid end ys most second
rise_both at end mid (x ∷ xs) ys first most second = (first.0, (first.1.0, rise_both x.block end mid xs ys first.1.1 most second))

last_both : (at mid last : ℕ) (xs ys : List DataUse) → last_from at xs ≤ mid → last_from mid ys ≤ last → last_from at (xs ++ ys) ≤ last
last_both at mid last [] [] first second = omega arith
last_both at mid last [] (y ∷ ys) first second = second
last_both at mid last (x ∷ xs) ys first second = last_both x.block mid last xs ys first second

pub rises_both : (at end mid last : ℕ) (xs ys : List DataUse) → Rises at end mid xs → Rises mid end last ys → Rises at end last (xs ++ ys)
rises_both at end mid last xs ys first second = record {
  order = rise_both at end mid xs ys first.order first.most second.order;
  most = last_both at mid last xs ys first.most second.most;
}

pub rises_none : (at end : ℕ) → Rises at end at []
rises_none at end = record { order = tt; most = omega arith }

-- a run
module _ (id : ℕ) (run : HitRun) (end : ℕ) where
  abbrev place_block : ℕ → ℕ
  place_block place = min (run.block + place) (2 ^ 64 - 1)

  places_rise : (at i n : ℕ) → i + n ≡ run.number → at ≤ place_block i → at ≤ place_block (run.number - 1) → place_block (run.number - 1) < end
      → Rises at end (place_block (run.number - 1)) (map (use_of id) (map (run_hit run) (range_with_len i n)))
  places_rise at i zero number first last before = record { order = tt; most = last }
  places_rise at i (suc n) number first last before =
      let below : place_block i ≤ place_block (run.number - 1) = omega arith in
      let next : place_block i ≤ place_block (i + 1) = omega arith in
      let rest = places_rise (place_block i) (i + 1) n (omega arith) next below before in
      record { order = (first, (omega arith, rest.order)); most = rest.most }

  pub run_rises : (at first last : ℕ) → first ≡ (run_hit run 0).block → last ≡ (run_hit run (run.number - 1)).block → at ≤ first → last < end → Rises at end last (map (use_of id) (run_hits run))
  run_rises at first last is_first is_last least before =
      let start : at ≤ place_block 0 = omega (arith, is_first, least) in
      let up : place_block 0 ≤ place_block (run.number - 1) = omega arith in
      let stop : place_block (run.number - 1) < end = omega (arith, is_last, before) in
      rw is_last (places_rise at 0 run.number (omega arith) start (omega arith) stop)

-- runs, and visits
pub runs_rise : (id at end mid last : ℕ) (runs : List HitRun) (i : ℕ) (d : HitRun) → i < length runs → Rises at end mid (map (use_of id) (runs_hits (take i runs)))
    → Rises mid end last (map (use_of id) (run_hits (get_or runs i d))) → Rises at end last (map (use_of id) (runs_hits (take (i + 1) runs)))
runs_rise id at end mid last runs i d within first second =
    rw (runs_so_far runs i d within, map-append (use_of id) (runs_hits (take i runs)) (run_hits (get_or runs i d)))
    (rises_both at end mid last (map (use_of id) (runs_hits (take i runs))) (map (use_of id) (run_hits (get_or runs i d))) first second)

pub visits_rise : (leaves : List (List Hit)) (at end mid last : ℕ) (visits : List Visit) (i : ℕ) (d : Visit) → i < length visits → Rises at end mid (visits_uses leaves (take i visits))
    → Rises mid end last (visit_uses leaves (get_or visits i d)) → Rises at end last (visits_uses leaves (take (i + 1) visits))
visits_rise leaves at end mid last visits i d within first second =
    rw (take_more visits i d within, uses_last leaves (take i visits) (get_or visits i d))
    (rises_both at end mid last (visits_uses leaves (take i visits)) (visit_uses leaves (get_or visits i d)) first second)

pub no_visit_uses : (leaves : List (List Hit)) → visits_uses leaves [] ≡ []
unfolding visits_uses
no_visit_uses leaves = refl

-- so they are the region's uses in their order
above : (least at end : ℕ) (uses : List DataUse) → least ≤ at → RisesFrom at end uses → AllByRecursion (λ (one : DataUse). least ≤ one.block) uses
above least at end [] less rise = tt
above least at end (one ∷ uses) less rise = let first = rise.0 in (omega arith, above least one.block end uses (omega arith) rise.1.1)

blocks_rise_from : (at end : ℕ) (uses : List DataUse) → RisesFrom at end uses → BlocksRise uses
blocks_rise_from at end [] rise = tt
blocks_rise_from at end (one ∷ uses) rise = (above one.block one.block end uses (omega arith) rise.1.1, blocks_rise_from one.block end uses rise.1.1)

inside : (first n at end : ℕ) (uses : List DataUse) → first ≤ at → end ≤ first + n → RisesFrom at end uses → AllByRecursion (λ (one : DataUse). (first ≤ one.block) × (one.block < first + n)) uses
inside first n at end [] less most rise = tt
inside first n at end (one ∷ uses) less most rise =
    let least = rise.0 in
    let below = rise.1.0 in
    ((omega arith, omega arith), inside first n one.block end uses (omega arith) most rise.1.1)

pub in_order : (first end : ℕ) (uses : List DataUse) → RisesFrom first end uses → ordered_uses first end uses ≡ uses
in_order first end uses rise =
    grouped first (end - first) uses (blocks_rise_from first end uses rise) (inside first (end - first) first end uses (omega arith) (omega arith) rise)

-- Texts of the parts of a list, one after another.

module _ {X : Type 0} (text : X → List ℕ) where
  pub parts_so_far : (xs : List X) (i : ℕ) (d : X) → i < length xs → flat_map text (take (i + 1) xs) ≡ flat_map text (take i xs) ++ text (get_or xs i d)
  parts_so_far xs i d within =
      ap (flat_map text) (take_more xs i d within) ∙ (flat_map-append text (take i xs) (get_or xs i d ∷ []) ∙ ap (λ (ys : List ℕ). flat_map text (take i xs) ++ ys) (append-nil (text (get_or xs i d))))

  parts_cut : (xs : List X) (i : ℕ) → flat_map text xs ≡ flat_map text (take i xs) ++ flat_map text (drop i xs)
  parts_cut xs i = ap (flat_map text) (sym (take-append-drop i xs)) ∙ flat_map-append text (take i xs) (drop i xs)

  pub parts_lost : (xs : List X) (i : ℕ) (d : X) {old mid new : Printing} → i < length xs → Printed (flat_map text (take i xs)) old mid → Begun (text (get_or xs i d)) mid new → Begun (flat_map text xs) old new
  parts_lost xs i d within printed begun = rw (parts_cut xs (i + 1), parts_so_far xs i d within) (begun_first (flat_map text (drop (i + 1) xs)) (begun_after printed begun))

-- and of the places of a run
module _ (text : ℕ → List ℕ) where
  one_place : (j i : ℕ) → j ≡ i → flat_map text (range_with_len j 1) ≡ text i
  one_place j i is = rw is (append-nil (text i))

  pub places_so_far : (i : ℕ) → flat_map text (range_with_len 0 (i + 1)) ≡ flat_map text (range_with_len 0 i) ++ text i
  places_so_far i =
      ap (flat_map text) (range_split 0 i 1)
      ∙ (flat_map-append text (range_with_len 0 i) (range_with_len (0 + i) 1) ∙ ap (λ (ys : List ℕ). flat_map text (range_with_len 0 i) ++ ys) (one_place (0 + i) i (omega arith)))

  places_cut : (n i : ℕ) → i < n → flat_map text (range_with_len 0 n) ≡ (flat_map text (range_with_len 0 i) ++ text i) ++ flat_map text (range_with_len (0 + (i + 1)) (n - (i + 1)))
  places_cut n i within =
      let whole : n ≡ (i + 1) + (n - (i + 1)) = omega arith in
      let rest = flat_map text (range_with_len (0 + (i + 1)) (n - (i + 1))) in
      ap (λ (m : ℕ). flat_map text (range_with_len 0 m)) whole
      ∙ (ap (flat_map text) (range_split 0 (i + 1) (n - (i + 1)))
      ∙ (flat_map-append text (range_with_len 0 (i + 1)) (range_with_len (0 + (i + 1)) (n - (i + 1))) ∙ ap (λ (ys : List ℕ). ys ++ rest) (places_so_far i)))

  pub places_lost : (n i : ℕ) {old mid new : Printing} → i < n → Printed (flat_map text (range_with_len 0 i)) old mid → Begun (text i) mid new → Begun (flat_map text (range_with_len 0 n)) old new
  places_lost n i within printed begun = rw (places_cut n i within) (begun_first (flat_map text (range_with_len (0 + (i + 1)) (n - (i + 1)))) (begun_after printed begun))

-- The lines of runs, and of visits.

uses_both : (xs ys : List DataUse) → uses_text (xs ++ ys) ≡ uses_text xs ++ uses_text ys
uses_both xs ys = flat_map-append use_line xs ys

places_text : (id : ℕ) (run : HitRun) (places : List ℕ) → flat_map (place_line id run) places ≡ uses_text (map (use_of id) (map (run_hit run) places))
places_text id run [] = refl
places_text id run (place ∷ places) = ap (λ (xs : List ℕ). place_line id run place ++ xs) (places_text id run places)

pub runs_text : (id : ℕ) (runs : List HitRun) → flat_map (run_text id) runs ≡ uses_text (map (use_of id) (runs_hits runs))
unfolding runs_hits
runs_text id [] = refl
runs_text id (run ∷ runs) =
    ap (λ (xs : List ℕ). xs ++ flat_map (run_text id) runs) (places_text id run (range_with_len 0 run.number))
    ∙ (ap (λ (xs : List ℕ). uses_text (map (use_of id) (run_hits run)) ++ xs) (runs_text id runs)
    ∙ sym (ap uses_text (map-append (use_of id) (run_hits run) (flat_map run_hits runs)) ∙ uses_both (map (use_of id) (run_hits run)) (map (use_of id) (flat_map run_hits runs))))

pub leaf_text : (leaves : List (List Hit)) (visit : Visit) (runs : List HitRun) → runs_hits runs ≡ leaf_at leaves visit.leaf → flat_map (run_text visit.id) runs ≡ visit_text leaves visit
leaf_text leaves visit runs is = runs_text visit.id runs ∙ ap (λ (hits : List Hit). uses_text (map (use_of visit.id) hits)) is

pub visits_text : (leaves : List (List Hit)) (visits : List Visit) → flat_map (visit_text leaves) visits ≡ uses_text (visits_uses leaves visits)
unfolding visits_uses
visits_text leaves [] = refl
visits_text leaves (visit ∷ visits) =
    ap (λ (xs : List ℕ). visit_text leaves visit ++ xs) (visits_text leaves visits) ∙ sym (uses_both (visit_uses leaves visit) (flat_map (visit_uses leaves) visits))
