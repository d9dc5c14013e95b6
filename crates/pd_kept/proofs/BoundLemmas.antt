-- Bounds of the times of mappings, and of all mappings that a shape holds.
use Rattle.std.proofs.Common.{◌≡◌, ℕ, zero, suc, ◌+◌, ◌<◌, ◌≤◌, max, true, eqb, List, [], ◌∷◌, ◌++◌, length, map, take, drop, sym, ap, subst, ◌∙◌, arith, inl, inr}
use Rattle.std.specs.List.{AllByRecursion, flat_map, list_any}
use Rattle.std.specs.Prelude.{fold, sum_by}
use Rattle.std.proofs.lemmas.Bool.{eqb-true, false≢true, or_cases}
use Rattle.std.proofs.lemmas.List.Folds.{list_any-append}
use Rattle.std.proofs.lemmas.List.{length-drop, nil_from_length}
use Rattle.std.proofs.lemmas.List.Sums.{sum_by-cons, sum_by-take-drop}
use Rattle.pd_kinds.specs.Meaning.{Mapping}
use Rattle.pd_laid.specs.FoundRoots.{times_of}
use Rattle.pd_laid.specs.Shape.{Piece, ShapeDevice, device_of, leaf_mappings, own, piece_mappings, shared, uses_of, uses_of_piece}
use Rattle.pd_laid.proofs.LeafRuns.{all_if_at}
use Rattle.pd_laid.specs.PoolText.{device_of_part, mappings_of_runs, piece_of_part}
use Rattle.pd_meaning_thin.specs.declared.joined.Run.{Run}
use Rattle.pd_meaning_thin.specs.Runs.{spelled}
use Rattle.pd_restore.proofs.SavedNeedLemmas.{all_append}
use Rattle.pd_salvage.specs.declared.saved_shape.SavedLeaf.{SavedLeaf}
use Rattle.pd_salvage.specs.declared.saved_shape.SavedPiece.{SavedPiece}
use Rattle.pd_salvage.specs.declared.saved_shape.SavedPiece.TheVariants.{Own, Shared}
use Rattle.pd_salvage.specs.declared.saved_shape.ShapedDevice.{ShapedDevice}
use Rattle.pd_salvage.specs.SavedShape.{device_parts, leaf_parts, piece_parts, runs_of_piece, runs_of_pieces}
use Rattle.pd_kept.specs.Kept.{own_times}

-- no number is above a bound, and the greatest is none where none is
abbrev pub Below : ℕ → List ℕ → Type 0
Below t xs = AllByRecursion (λ x. x ≤ t) xs

pub below_greatest : (a t : ℕ) (xs : List ℕ) → fold max a xs ≤ t → (a ≤ t) × Below t xs
below_greatest a t [] within = (within, tt)
below_greatest a t (x ∷ xs) within =
    let rest = below_greatest (max a x) t xs within in
    let most = rest.0 in
    (omega (arith, most), (omega (arith, most), rest.1))

pub greatest_below : (a t : ℕ) (xs : List ℕ) → a ≤ t → Below t xs → fold max a xs ≤ t
greatest_below a t [] first below = first
greatest_below a t (x ∷ xs) first below = let here = below.0 in greatest_below (max a x) t xs (omega (arith, first, here)) below.1

-- no mapping has a later time
abbrev pub Until : ℕ → List Mapping → Type 0
Until t ms = AllByRecursion (λ (m : Mapping). m.time ≤ t) ms

abbrev pub RunsUntil : ℕ → List Run → Type 0
RunsUntil t runs = Until t (mappings_of_runs (map spelled runs))

pub until_below : (t : ℕ) (ms : List Mapping) → Until t ms → Below t (map (λ (m : Mapping). m.time) ms)
until_below t [] until = tt
until_below t (m ∷ ms) until = (until.0, until_below t ms until.1)

pub below_until : (t : ℕ) (ms : List Mapping) → Below t (map (λ (m : Mapping). m.time) ms) → Until t ms
below_until t [] below = tt
below_until t (m ∷ ms) below = (below.0, below_until t ms below.1)

-- of two rows of mappings
pub first_of_all : {A : Type 0} (P : A → Type 0) (xs ys : List A) → AllByRecursion P (xs ++ ys) → AllByRecursion P xs
first_of_all P [] ys all = tt
first_of_all P (x ∷ xs) ys all = (all.0, first_of_all P xs ys all.1)

pub rest_of_all : {A : Type 0} (P : A → Type 0) (xs ys : List A) → AllByRecursion P (xs ++ ys) → AllByRecursion P ys
rest_of_all P [] ys all = all
rest_of_all P (x ∷ xs) ys all = rest_of_all P xs ys all.1

-- of the runs in front, and of those behind them
pub front_until : (t n : ℕ) (runs : List Run) → RunsUntil t runs → RunsUntil t (take n runs)
front_until t zero runs until = tt
front_until t (suc n) [] until = tt
front_until t (suc n) (r ∷ runs) until =
    let mine = mappings_of_runs (map spelled (r ∷ [])) in
    let row = mappings_of_runs (map spelled runs) in
    all_append (λ (m : Mapping). m.time ≤ t) _ _ (first_of_all (λ (m : Mapping). m.time ≤ t) _ row until) (front_until t n runs (rest_of_all (λ (m : Mapping). m.time ≤ t) _ row until))

pub behind_until : (t n : ℕ) (runs : List Run) → RunsUntil t runs → RunsUntil t (drop n runs)
behind_until t zero runs until = until
behind_until t (suc n) [] until = tt
behind_until t (suc n) (r ∷ runs) until = behind_until t n runs (rest_of_all (λ (m : Mapping). m.time ≤ t) _ (mappings_of_runs (map spelled runs)) until)

pub both_until : (t n : ℕ) (runs : List Run) → RunsUntil t (take n runs) → RunsUntil t (drop n runs) → RunsUntil t runs
both_until t zero runs front behind = behind
both_until t (suc n) [] front behind = tt
both_until t (suc n) (r ∷ runs) front behind =
    let row = mappings_of_runs (map spelled (take n runs)) in
    all_append (λ (m : Mapping). m.time ≤ t) _ _ (first_of_all (λ (m : Mapping). m.time ≤ t) _ row front) (both_until t n runs (rest_of_all (λ (m : Mapping). m.time ≤ t) _ row front) behind)

-- of the leaves, by their runs
pub leaves_until : (t : ℕ) (leaves : List SavedLeaf) (runs : List Run) → RunsUntil t runs → AllByRecursion (Until t) (map mappings_of_runs (leaf_parts leaves runs))
leaves_until t [] runs until = tt
leaves_until t (leaf ∷ leaves) runs until = (front_until t leaf.runs runs until, leaves_until t leaves (drop leaf.runs runs) (behind_until t leaf.runs runs until))

pub until_leaves : (t : ℕ) (leaves : List SavedLeaf) (runs : List Run) → sum_by (λ (leaf : SavedLeaf). leaf.runs) leaves ≡ length runs
    → AllByRecursion (Until t) (map mappings_of_runs (leaf_parts leaves runs)) → RunsUntil t runs
until_leaves t [] runs number until = rw (nil_from_length runs (sym number)) tt
until_leaves t (leaf ∷ leaves) runs number until =
    both_until t leaf.runs runs until.0
    (until_leaves t leaves (drop leaf.runs runs) (omega (arith, number, sum_by-cons (λ (l : SavedLeaf). l.runs) leaf leaves, length-drop leaf.runs runs)) until.1)

-- a leaf that there is, and one that there isn't
pub leaf_until : (t : ℕ) (leaves : List (List Mapping)) (n : ℕ) → AllByRecursion (Until t) leaves → Until t (leaf_mappings leaves n)
leaf_until t [] n until = tt
leaf_until t (leaf ∷ leaves) zero until = until.0
leaf_until t (leaf ∷ leaves) (suc n) until = leaf_until t leaves n until.1

-- of the pieces of a device, by their runs and by the leaves
pub pieces_until : (t : ℕ) (leaves : List (List Mapping)) (ps : List SavedPiece) (runs : List Run) → AllByRecursion (Until t) leaves → RunsUntil t runs
    → Until t (flat_map (piece_mappings leaves) (map piece_of_part (piece_parts ps runs)))
pieces_until t leaves [] runs known until = tt
pieces_until t leaves (Own k ∷ ps) runs known until =
    all_append (λ (m : Mapping). m.time ≤ t) _ _ (front_until t k runs until) (pieces_until t leaves ps (drop k runs) known (behind_until t k runs until))
pieces_until t leaves (Shared n ∷ ps) runs known until =
    all_append (λ (m : Mapping). m.time ≤ t) _ _ (leaf_until t leaves n known) (pieces_until t leaves ps runs known until)

take_front : {A : Type 0} (n k : ℕ) (xs : List A) (P : List A → Type 0) → P (take k xs ++ take n (drop k xs)) → P (take (k + n) xs)
take_front n zero xs P p = let whole : 0 + n ≡ n = omega arith in rw whole p
take_front n (suc k) [] P p = let one : suc k + n ≡ suc (k + n) = omega arith in rw one (none n p)
  where
    none : (n : ℕ) → P (take n []) → P []
    none zero p = p
    none (suc n) p = p
take_front n (suc k) (x ∷ xs) P p = let one : suc k + n ≡ suc (k + n) = omega arith in rw one (take_front n k xs (λ ys. P (x ∷ ys)) p)

pub until_pieces : (t : ℕ) (leaves : List (List Mapping)) (ps : List SavedPiece) (runs : List Run)
    → Until t (flat_map (piece_mappings leaves) (map piece_of_part (piece_parts ps runs))) → RunsUntil t (take (runs_of_pieces ps) runs)
until_pieces t leaves [] runs until = tt
until_pieces t leaves (Own k ∷ ps) runs until =
    let row = flat_map (piece_mappings leaves) (map piece_of_part (piece_parts ps (drop k runs))) in
    let first = first_of_all (λ (m : Mapping). m.time ≤ t) (mappings_of_runs (map spelled (take k runs))) row until in
    let rest = until_pieces t leaves ps (drop k runs) (rest_of_all (λ (m : Mapping). m.time ≤ t) (mappings_of_runs (map spelled (take k runs))) row until) in
    subst (λ (n : ℕ). RunsUntil t (take n runs)) (sym (sum_by-cons runs_of_piece (Own k) ps))
    (take_front (runs_of_pieces ps) k runs (RunsUntil t) (runs_append t (take k runs) (take (runs_of_pieces ps) (drop k runs)) first rest))
  where
    runs_append : (t : ℕ) (rs others : List Run) → RunsUntil t rs → RunsUntil t others → RunsUntil t (rs ++ others)
    runs_append t [] others first second = second
    runs_append t (r ∷ rs) others first second =
        let row = mappings_of_runs (map spelled rs) in
        all_append (λ (m : Mapping). m.time ≤ t) _ _ (first_of_all (λ (m : Mapping). m.time ≤ t) _ row first) (runs_append t rs others (rest_of_all (λ (m : Mapping). m.time ≤ t) _ row first) second)
until_pieces t leaves (Shared n ∷ ps) runs until =
    let row = flat_map (piece_mappings leaves) (map piece_of_part (piece_parts ps runs)) in
    let same : runs_of_pieces ps ≡ runs_of_pieces (Shared n ∷ ps) = omega (arith, sum_by-cons runs_of_piece (Shared n) ps) in
    subst (λ (k : ℕ). RunsUntil t (take k runs)) same (until_pieces t leaves ps runs (rest_of_all (λ (m : Mapping). m.time ≤ t) (leaf_mappings leaves n) row until))

-- of all devices: of their details, of their own runs, and of the leaves
abbrev times_in : List (List Mapping) → List ShapedDevice → List SavedPiece → List Run → List ℕ
times_in leaves ds ps runs = flat_map times_of (map (device_of leaves) (map device_of_part (device_parts ds ps runs)))

pub devices_below : (t : ℕ) (leaves : List (List Mapping)) (ds : List ShapedDevice) (ps : List SavedPiece) (runs : List Run) → AllByRecursion (Until t) leaves → RunsUntil t runs
    → Below t (flat_map own_times ds) → Below t (times_in leaves ds ps runs)
devices_below t leaves [] ps runs known until below = tt
devices_below t leaves (d ∷ ds) ps runs known until below =
    let mine = take d.pieces ps in
    let ms = flat_map (piece_mappings leaves) (map piece_of_part (piece_parts mine runs)) in (
      below.0,
      (
        below.1.0,
        all_append (λ (x : ℕ). x ≤ t) (map (λ (m : Mapping). m.time) ms) _ (until_below t ms (pieces_until t leaves mine runs known until))
            (devices_below t leaves ds (drop d.pieces ps) (drop (runs_of_pieces mine) runs) known (behind_until t (runs_of_pieces mine) runs until) below.1.1),
      ),
    )

-- and of each of these, by all devices
pub below_details : (t : ℕ) (leaves : List (List Mapping)) (ds : List ShapedDevice) (ps : List SavedPiece) (runs : List Run) → Below t (times_in leaves ds ps runs) → Below t (flat_map own_times ds)
below_details t leaves [] ps runs below = tt
below_details t leaves (d ∷ ds) ps runs below =
    let mine = take d.pieces ps in
    let ms = flat_map (piece_mappings leaves) (map piece_of_part (piece_parts mine runs)) in (
      below.0,
      (
        below.1.0,
        below_details t leaves ds (drop d.pieces ps) (drop (runs_of_pieces mine) runs) (rest_of_all (λ (x : ℕ). x ≤ t) (map (λ (m : Mapping). m.time) ms) _ below.1.1),
      ),
    )

pub until_own : (t : ℕ) (leaves : List (List Mapping)) (ds : List ShapedDevice) (ps : List SavedPiece) (runs : List Run) → sum_by (λ (d : ShapedDevice). d.pieces) ds ≡ length ps
    → runs_of_pieces ps ≡ length runs → Below t (times_in leaves ds ps runs) → RunsUntil t runs
until_own t leaves [] ps runs pieces number below =
    let none : length runs ≡ 0 = sym number ∙ ap runs_of_pieces (nil_from_length ps (sym pieces)) in
    rw (nil_from_length runs none) tt
until_own t leaves (d ∷ ds) ps runs pieces number below =
    let mine = take d.pieces ps in
    let rest = drop (runs_of_pieces mine) runs in
    let ms = flat_map (piece_mappings leaves) (map piece_of_part (piece_parts mine runs)) in
    both_until t (runs_of_pieces mine) runs
    (until_pieces t leaves mine runs (below_until t ms (first_of_all (λ (x : ℕ). x ≤ t) (map (λ (m : Mapping). m.time) ms) _ below.1.1)))
    (until_own t leaves ds (drop d.pieces ps) rest
    (omega (arith, pieces, sum_by-cons (λ (d : ShapedDevice). d.pieces) d ds, length-drop d.pieces ps))
    (omega (arith, number, sum_by-take-drop runs_of_piece ps d.pieces, length-drop (runs_of_pieces mine) runs))
    (rest_of_all (λ (x : ℕ). x ≤ t) (map (λ (m : Mapping). m.time) ms) _ below.1.1))

-- a leaf that a piece uses, and one that a device uses
used_by_pieces : (t n : ℕ) (leaves : List (List Mapping)) (ps : List Piece) → Until t (flat_map (piece_mappings leaves) ps) → list_any (λ used. eqb used n) (flat_map uses_of_piece ps) ≡ true
    → Until t (leaf_mappings leaves n)
used_by_pieces t n leaves [] until uses = absurd (false≢true uses)
used_by_pieces t n leaves (own ms ∷ ps) until uses = used_by_pieces t n leaves ps (rest_of_all (λ (m : Mapping). m.time ≤ t) ms _ until) uses
used_by_pieces t n leaves (shared k ∷ ps) until uses = elim (or_cases (eqb k n) (list_any (λ used. eqb used n) (flat_map uses_of_piece ps)) uses) [
  | inl same ↦ subst (λ m. Until t (leaf_mappings leaves m)) (eqb-true k n same)
      (first_of_all (λ (m : Mapping). m.time ≤ t) (leaf_mappings leaves k) (flat_map (piece_mappings leaves) ps) until)
  | inr later ↦ used_by_pieces t n leaves ps (rest_of_all (λ (m : Mapping). m.time ≤ t) (leaf_mappings leaves k) (flat_map (piece_mappings leaves) ps) until) later
]

used_by_devices : (t n : ℕ) (leaves : List (List Mapping)) (ds : List ShapeDevice) → Below t (flat_map times_of (map (device_of leaves) ds)) → list_any (λ used. eqb used n) (flat_map uses_of ds) ≡ true
    → Until t (leaf_mappings leaves n)
used_by_devices t n leaves [] below uses = absurd (false≢true uses)
used_by_devices t n leaves (d ∷ ds) below uses =
    let ms = flat_map (piece_mappings leaves) d.pieces in
    elim (or_cases (list_any (λ used. eqb used n) (uses_of d)) (list_any (λ used. eqb used n) (flat_map uses_of ds)) (sym (list_any-append (λ used. eqb used n) (uses_of d) (flat_map uses_of ds)) ∙ uses)) [
      | inl here ↦ used_by_pieces t n leaves d.pieces (below_until t ms (first_of_all (λ (x : ℕ). x ≤ t) (map (λ (m : Mapping). m.time) ms) _ below.1.1)) here
      | inr later ↦ used_by_devices t n leaves ds (rest_of_all (λ (x : ℕ). x ≤ t) (map (λ (m : Mapping). m.time) ms) _ below.1.1) later
    ]

-- so of each leaf, where each is used
pub until_used : (t : ℕ) (leaves : List (List Mapping)) (ds : List ShapeDevice) → Below t (flat_map times_of (map (device_of leaves) ds))
    → ((n : ℕ) → n < length leaves → list_any (λ used. eqb used n) (flat_map uses_of ds) ≡ true) → AllByRecursion (Until t) leaves
until_used t leaves ds below used = all_if_at (Until t) leaves (λ n within. used_by_devices t n leaves ds below (used n within))
