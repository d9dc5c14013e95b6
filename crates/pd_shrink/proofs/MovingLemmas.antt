-- The runs of a part whose data blocks were moved.
use Rattle.std.proofs.Common.{◌≡◌, ℕ, zero, suc, ◌+◌, ◌<◌, ◌≤◌, get_or, List, [], ◌∷◌, length, take, drop, drop-cons, add-one, ap, sym, ◌∙◌, arith, length-drop, ◌++◌, refl, append_assoc, inl, inr, Ok, Err, ◌-◌, map, subst}
use Rattle.std.proofs.lemmas.List.{drop_all, take_all, append-nil, map-append, nil_from_length, take-append-drop, take_more}
use Rattle.std.specs.List.Sorted.{IsBinarySearchResult, IsNonDecreasingBy}
use Rattle.std.specs.Ordering.{nat_cmp, ordering_index}
use Rattle.std.proofs.lemmas.Bool.{cases_lt, eq-eqb, ne_eqb}
use Rattle.std.proofs.lemmas.Bool.Decides.{nat_tests}
use Rattle.std.proofs.lemmas.Cmp.{ranked}
use Rattle.std.proofs.lemmas.List.Sorted.{IsNonDecreasingBy-from_default}
use Rattle.std.specs.List.{AllByRecursion}
use Rattle.pd_kinds.specs.Meaning.{Mapping}
use Rattle.pd_kinds.proofs.KindsListLemmas.{all_last}
use Rattle.pd_grammar.specs.ThinText.{mappings_from, mappings_of}
use Rattle.pd_answers.specs.Shrinks.{Move, moves_to, moved_to, moved_mapping}
use Rattle.pd_meaning_thin.specs.declared.joined.Run.{Run}
use Rattle.pd_meaning_thin.specs.Runs.{spelled}
use Rattle.pd_meaning_thin.proofs.AppendLemmas.{both_runs}
use Rattle.pd_meaning_thin.specs.Packed.{no_run}
use Rattle.pd_salvage.specs.Gather.{mappings_of_runs, IsJoining, Takes}
use Rattle.pd_salvage.proofs.GatherLemmas.{runs_more}
use Rattle.pd_salvage.specs.declared.joined.Joining.{Joining}
use Rattle.pd_shrink.specs.Moves.{move_in, moves_in, AreMovesFrom, FitsRun}
use Rattle.pd_shrink.specs.declared.moves.MovedBlock.{MovedBlock}
use Rattle.pd_shrink.proofs.MovedLemmas.{no_move}

-- What is left of a list, where its first item is met and where nothing is.

module _ {T : Type 0} (xs : List T) (i : ℕ) where
  module _ (x : T) (rest : List T) (met : drop i xs ≡ x ∷ rest) where
    pub met_within : i < length xs
    met_within = let n : length (drop i xs) ≡ suc (length rest) = ap length met in omega (arith, n, length-drop i xs)

    pub met_is : (d : T) → get_or xs i d ≡ x
    met_is d = ap (λ (ys : List T). get_or ys zero d) (sym (drop-cons xs i d met_within) ∙ met)

    pub met_behind : rest ≡ drop (i + 1) xs
    met_behind = rw (add-one i) (ap (drop (suc zero)) (sym met ∙ drop-cons xs i x met_within))

  module _ (none : drop i xs ≡ []) where
    none_within : length xs ≤ i
    none_within = let n : length (drop i xs) ≡ 0 = ap length none in omega (arith, n, length-drop i xs)

    pub none_taken : take i xs ≡ take (i + 1) xs
    none_taken = let all = none_within in take_all i xs all ∙ sym (take_all (i + 1) xs (omega arith))

    pub none_behind : [] ≡ drop (i + 1) xs
    none_behind = let all = none_within in sym (drop_all (i + 1) xs (omega arith))

-- Sources and free blocks, pair by pair.

-- one pair more, where these are left
pub pair_more : (sources free : List ℕ) (i : ℕ) (old new : List MovedBlock) → i < length sources → i < length free
    → new ≡ old ++ record { source = get_or sources i 0; target = get_or free i 0 } ∷ [] → moves_in old ++ moves_to (drop i sources) (drop i free) ≡ moves_to sources free
    → moves_in new ++ moves_to (drop (i + 1) sources) (drop (i + 1) free) ≡ moves_to sources free
pair_more sources free i old new in_sources in_free new_is before =
    let x : MovedBlock = record { source = get_or sources i 0; target = get_or free i 0 } in
    ap (λ (ms : List MovedBlock). moves_in ms ++ moves_to (drop (i + 1) sources) (drop (i + 1) free)) new_is
    ∙ (ap (λ (ms : List Move). ms ++ moves_to (drop (i + 1) sources) (drop (i + 1) free)) (map-append move_in old (x ∷ []))
    ∙ (append_assoc (moves_in old) (moves_in (x ∷ [])) (moves_to (drop (i + 1) sources) (drop (i + 1) free))
    ∙ (ap (λ (ms : List Move). moves_in old ++ ms) next ∙ before)))
  where
    next : moves_in (record { source = get_or sources i 0; target = get_or free i 0 } ∷ []) ++ moves_to (drop (i + 1) sources) (drop (i + 1) free) ≡ moves_to (drop i sources) (drop i free)
    next = rw (add-one, drop-cons sources i 0, drop-cons free i 0) refl

pub pair_all : (sources free : List ℕ) (i : ℕ) (moves : List MovedBlock) → length sources ≤ i → moves_in moves ++ moves_to (drop i sources) (drop i free) ≡ moves_to sources free
    → moves_in moves ≡ moves_to sources free
pair_all sources free i moves all before =
    let none : drop i sources ≡ [] = nil_from_length (drop i sources) (let rest = length-drop i sources in omega arith) in
    sym (append-nil (moves_in moves)) ∙ (ap (λ (ds : List ℕ). moves_in moves ++ moves_to ds (drop i free)) (sym none) ∙ before)

-- Where a data block is after moves whose sources ascend.

-- the sources ascend from any lower number on, too
pub from_lower : (top low least : ℕ) (moves : List Move) → low ≤ least → AreMovesFrom top least moves → AreMovesFrom top low moves
from_lower top low least [] below are = tt
from_lower top low least (x ∷ moves) below are =
    let from = are.0.from in
    (record { from = omega arith; below = are.0.below }, are.1)

-- a data block below all sources stays
pub below_stays : (top least d : ℕ) (moves : List Move) → AreMovesFrom top least moves → d < least → moved_to moves d ≡ d
unfolding moved_to
below_stays top least d [] are below = refl
below_stays top least d (x ∷ moves) are below =
    let from = are.0.from in
    rw (ne_eqb x.source d (λ same. omega arith)) (below_stays top (x.source + 1) d moves are.1 (omega arith))

abbrev source_at : List MovedBlock → ℕ → ℕ
source_at moves i = (get_or moves i no_move).source

source_from : (top least : ℕ) (moves : List MovedBlock) (i : ℕ) → AreMovesFrom top least (moves_in moves) → i < length moves → least ≤ source_at moves i
source_from top least [] i are within = absurd (omega arith)
source_from top least (x ∷ moves) zero are within = are.0.from
source_from top least (x ∷ moves) (suc i) are within =
    let from = are.0.from in
    let later = source_from top (x.source + 1) moves i are.1 (omega arith) in
    omega arith

sources_rise : (top least : ℕ) (moves : List MovedBlock) (i j : ℕ) → AreMovesFrom top least (moves_in moves) → i ≤ j → j < length moves → source_at moves i ≤ source_at moves j
sources_rise top least [] i j are le within = absurd (omega arith)
sources_rise top least (x ∷ moves) zero zero are le within = omega arith
sources_rise top least (x ∷ moves) zero (suc j) are le within =
    let later = source_from top (x.source + 1) moves j are.1 (omega arith) in omega arith
sources_rise top least (x ∷ moves) (suc i) zero are le within = absurd (omega arith)
sources_rise top least (x ∷ moves) (suc i) (suc j) are le within = sources_rise top (x.source + 1) moves i j are.1 (omega arith) (omega arith)

-- where a data block is that is a source, and that its place is below the top
pub place_at : (top least d : ℕ) (moves : List MovedBlock) (i : ℕ) → AreMovesFrom top least (moves_in moves) → i < length moves → source_at moves i ≡ d
    → (get_or moves i no_move).target ≡ moved_to (moves_in moves) d
unfolding moved_to
place_at top least d [] i are within is = absurd (omega arith)
place_at top least d (x ∷ moves) zero are within is = rw (eq-eqb x.source d is) refl
place_at top least d (x ∷ moves) (suc i) are within is =
    let later = source_from top (x.source + 1) moves i are.1 (omega arith) in
    rw (ne_eqb x.source d (λ same. omega arith)) (place_at top (x.source + 1) d moves i are.1 (omega arith) is)

pub target_below : (top least : ℕ) (moves : List MovedBlock) (i : ℕ) → AreMovesFrom top least (moves_in moves) → i < length moves → (get_or moves i no_move).target < top
target_below top least [] i are within = absurd (omega arith)
target_below top least (x ∷ moves) zero are within = are.0.below
target_below top least (x ∷ moves) (suc i) are within = target_below top (x.source + 1) moves i are.1 (omega arith)

-- one that is no source stays
no_source : (d : ℕ) (moves : List MovedBlock) → ((i : ℕ) → i < length moves → source_at moves i ≡ d → ⊥) → d ≡ moved_to (moves_in moves) d
unfolding moved_to
no_source d [] apart = refl
no_source d (x ∷ moves) apart =
    rw (ne_eqb x.source d (apart 0 (omega arith))) (no_source d moves (λ i within. apart (suc i) (omega arith)))

module _ (top least d : ℕ) (moves : List MovedBlock) (are : AreMovesFrom top least (moves_in moves)) where
  -- the comparisons rise along the moves, as a binary search asks
  comparisons_rise : IsNonDecreasingBy (λ (x : MovedBlock). ordering_index (nat_cmp x.source d)) moves
  comparisons_rise = IsNonDecreasingBy-from_default (λ (x : MovedBlock). ordering_index (nat_cmp x.source d)) moves no_move (λ i j le within.
      let rise : source_at moves i ≤ source_at moves j = sources_rise top least moves i j are le within in
      grind (arith, nat_tests))

  -- a binary search ends at the source, or there is none
  pub found_at : (at : ℕ) → IsBinarySearchResult (λ (x : MovedBlock). nat_cmp x.source d) moves (Ok at) → source_at moves at ≡ d
  found_at at equal = ranked _ d _ (sym (equal no_move))

  pub found_none : (at : ℕ) → IsBinarySearchResult (λ (x : MovedBlock). nat_cmp x.source d) moves (Err at) → d ≡ moved_to (moves_in moves) d
  found_none at parted =
      let sides = parted comparisons_rise in
      no_source d moves (λ i within same. elim (cases_lt i at) [
        | inl before ↦ let less : source_at moves i < d = ranked _ d _ (sym (sides.0 i no_move (omega arith) before)) in omega arith
        | inr behind ↦ let more : d < source_at moves i = ranked _ d _ (sym (sides.1 i no_move behind within)) in omega arith
      ])

-- the first mappings of a run, where they were moved
abbrev pub moved_first : List Move → Run → ℕ → List Mapping
moved_first moves r n = map (moved_mapping moves) (mappings_from r.virt r.target r.time n)

-- those of data blocks below all sources stay
stays_same : (top least : ℕ) (moves : List Move) (v d t n : ℕ) → AreMovesFrom top least moves → n ≤ least - d
    → map (moved_mapping moves) (mappings_from v d t n) ≡ mappings_from v d t n
stays_same top least moves v d t zero are below = refl
stays_same top least moves v d t (suc n) are below =
    rw (below_stays top least d moves are (omega arith))
    (ap (λ (ms : List Mapping). record { virtual_block = v; data_block = d; time = t } ∷ ms) (stays_same top least moves (suc v) (suc d) t n are (omega arith)))

-- one more
moved_more : (moves : List Move) (v d t i place : ℕ) → place ≡ moved_to moves (d + i)
    → map (moved_mapping moves) (mappings_from v d t i) ++ record { virtual_block = v + i; data_block = place; time = t } ∷ []
    ≡ map (moved_mapping moves) (mappings_from v d t (i + 1))
moved_more moves v d t i place is =
    rw is
    (sym (map-append (moved_mapping moves) (mappings_from v d t i) (mappings_from (v + i) (d + i) t 1))
    ∙ ap (map (moved_mapping moves)) (both_runs v d t i 1))

module _ (moves : List Move) (r : Run) (old now new : List Run) (first joining joining' : Joining) where
  -- the part of a run that stays is taken, or there is none
  pub takes_staying : (top least n : ℕ) → AreMovesFrom top least moves → n ≤ least - r.target
      → Takes (mappings_from r.virt r.target r.time n) old now first joining → Takes (moved_first moves r n) old now first joining
  takes_staying top least n are below takes =
      subst (λ (ms : List Mapping). Takes ms old now first joining) (sym (stays_same top least moves r.virt r.target r.time n are below)) takes

  pub takes_none : (n : ℕ) → n ≤ 0 → Takes (moved_first moves r n) old old first first
  takes_none zero none = λ before ms is. subst (IsJoining before old first) (sym (append-nil ms)) is
  takes_none (suc n) none = absurd (omega arith)

  -- one mapping more
  pub takes_more : (i place : ℕ) → place ≡ moved_to moves (r.target + i) → Takes (moved_first moves r i) old now first joining
      → Takes (record { virtual_block = r.virt + i; data_block = place; time = r.time } ∷ []) now new joining joining'
      → Takes (moved_first moves r (i + 1)) old new first joining'
  takes_more i place is takes more = λ before ms joins.
      subst (IsJoining before new joining')
      (append_assoc ms (moved_first moves r i) (record { virtual_block = r.virt + i; data_block = place; time = r.time } ∷ [])
      ∙ ap (λ (xs : List Mapping). ms ++ xs) (moved_more moves r.virt r.target r.time i place is))
      (more before (ms ++ moved_first moves r i) (takes before ms joins))

-- a run more is taken of a device's
takes_run : (moves : List Move) (rs before now new : List Run) (i : ℕ) (joining joining' : Joining) → i < length rs
    → Takes (moved_first moves (get_or rs i no_run) (get_or rs i no_run).length) now new joining joining'
    → IsJoining before now joining (map (moved_mapping moves) (mappings_of_runs (take i rs)))
    → IsJoining before new joining' (map (moved_mapping moves) (mappings_of_runs (take (i + 1) rs)))
takes_run moves rs before now new i joining joining' within takes is =
    let r = get_or rs i no_run in
    subst (IsJoining before new joining')
    (sym (ap (λ (xs : List Run). map (moved_mapping moves) (mappings_of_runs xs)) (take_more rs i no_run within)
    ∙ (ap (map (moved_mapping moves)) (runs_more (take i rs) r) ∙ map-append (moved_mapping moves) (mappings_of_runs (take i rs)) (mappings_of (spelled r)))))
    (takes before (map (moved_mapping moves) (mappings_of_runs (take i rs))) is)

-- where it is the next one, and where none is left
module _ (moves : List Move) (rs before now : List Run) (i : ℕ) (joining : Joining) (is : IsJoining before now joining (map (moved_mapping moves) (mappings_of_runs (take i rs)))) where
  pub takes_met : (r : Run) (rest new : List Run) (joining' : Joining) → drop i rs ≡ r ∷ rest → Takes (moved_first moves r r.length) now new joining joining'
      → IsJoining before new joining' (map (moved_mapping moves) (mappings_of_runs (take (i + 1) rs)))
  takes_met r rest new joining' met takes =
      takes_run moves rs before now new i joining joining' (met_within rs i r rest met)
      (subst (λ (x : Run). Takes (moved_first moves x x.length) now new joining joining') (sym (met_is rs i r rest met no_run)) takes) is

  pub takes_no_run : drop i rs ≡ [] → IsJoining before now joining (map (moved_mapping moves) (mappings_of_runs (take (i + 1) rs)))
  takes_no_run none = subst (λ (xs : List Run). IsJoining before now joining (map (moved_mapping moves) (mappings_of_runs xs))) (none_taken rs i none) is

module _ (n : ℕ) (runs : List Run) (all : AllByRecursion FitsRun runs) where
  both_fit : AllByRecursion FitsRun (take n runs ++ drop n runs)
  both_fit = subst (AllByRecursion FitsRun) (sym (take-append-drop n runs)) all

  pub left_fit : AllByRecursion FitsRun (drop n runs)
  left_fit = all_last FitsRun (take n runs) (drop n runs) both_fit
