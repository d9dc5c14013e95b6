-- What the lines of a whole text tell of its devices' leaves.
use Rattle.std.proofs.Common.{◌≡◌, ℕ, ◌+◌, ◌≤◌, true, false, List, [], ◌∷◌, ◌++◌, length, map, refl, ◌∙◌, ap, ap₂, arith}
use Rattle.std.specs.List.{flat_map}
use Rattle.std.proofs.lemmas.Bool.{ne_eqb}
use Rattle.std.proofs.lemmas.List.{length-append}
use Rattle.std.proofs.lemmas.List.Sums.{sum_by-cons}
use Rattle.pd_kinds.specs.Meaning.{Mapping}
use Rattle.pd_kinds.specs.Node.{max_entries}
use Rattle.pd_grammar.specs.Need.{nodes_for}
use Rattle.pd_grammar.specs.ThinText.{Line, Run, leaf_line, device_line, map_line, mappings_of}
use Rattle.pd_grammar.proofs.ThinMeaning.{mappings_length}
use Rattle.pd_grammar.proofs.ThinLaws.{pushed}
use Rattle.pd_laid.specs.Shape.{ArePieces, Piece, own, shared, uses_of_piece}
use Rattle.pd_laid.specs.PoolText.{LeafCount, Told, leaf_count, leaves_of_ended, leaves_of_pieces, need_of_leaves, own_number, told_devices, told_nothing, with_run, with_use, PartPiece, SharedPart, lines_of_leaves, lines_of_part, lines_of_piece, mappings_of_runs, own_runs, piece_of_part, used_leaf}
use Rattle.pd_laid.proofs.NeedGrows.{leaves_for, needs}

pub pushed-append : (before xs ys : List Line) → pushed before (xs ++ ys) ≡ pushed (pushed before xs) ys
pushed-append before [] ys = refl
pushed-append before (x ∷ xs) ys = pushed-append (x ∷ before) xs ys

-- leaves tell nothing of devices
runs_untold : (runs : List Run) (before : List Line) → told_devices before ≡ [] → told_devices (pushed before (map map_line runs)) ≡ []
runs_untold [] before none = none
runs_untold (r ∷ runs) before none = runs_untold runs (map_line r ∷ before) (rw none refl)

pub leaves_untold : (k : ℕ) (leaves : List (List Run)) (before : List Line) → told_devices before ≡ [] → told_devices (pushed before (lines_of_leaves k leaves)) ≡ []
leaves_untold k [] before none = none
leaves_untold k (runs ∷ leaves) before none =
    let head = leaf_line (record { number = k; entries = length (mappings_of_runs runs) }) ∷ before in
    ap told_devices (pushed-append head (map map_line runs) (lines_of_leaves (k + 1) leaves))
    ∙ leaves_untold (k + 1) leaves (pushed head (map map_line runs)) (runs_untold runs head none)

-- the newest device after more lines
abbrev after_runs : Told → List Run → Told
after_runs x [] = x
after_runs x (r ∷ runs) = after_runs (with_run r.length x) runs

abbrev after_piece : Told → PartPiece → Told
after_piece x (own_runs runs) = after_runs x runs
after_piece x (used_leaf n) = with_use x

abbrev pub after_pieces : Told → List PartPiece → Told
after_pieces x [] = x
after_pieces x (p ∷ pieces) = after_pieces (after_piece x p) pieces

runs_told : (runs : List Run) (before : List Line) (x : Told) (told : List Told) → told_devices before ≡ x ∷ told
    → told_devices (pushed before (map map_line runs)) ≡ after_runs x runs ∷ told
runs_told [] before x told is = is
runs_told (r ∷ runs) before x told is = runs_told runs (map_line r ∷ before) (with_run r.length x) told (rw is refl)

piece_told : (p : PartPiece) (before : List Line) (x : Told) (told : List Told) → told_devices before ≡ x ∷ told
    → told_devices (pushed before (lines_of_piece p)) ≡ after_piece x p ∷ told
piece_told (own_runs runs) before x told is = runs_told runs before x told is
piece_told (used_leaf n) before x told is = rw is refl

pieces_told : (pieces : List PartPiece) (before : List Line) (x : Told) (told : List Told) → told_devices before ≡ x ∷ told
    → told_devices (pushed before (flat_map lines_of_piece pieces)) ≡ after_pieces x pieces ∷ told
pieces_told [] before x told is = is
pieces_told (p ∷ pieces) before x told is =
    ap told_devices (pushed-append before (lines_of_piece p) (flat_map lines_of_piece pieces))
    ∙ pieces_told pieces (pushed before (lines_of_piece p)) (after_piece x p) told (piece_told p before x told is)

-- the leaves of all devices that have ended
abbrev pub ended_need : List Line → ℕ
ended_need before = needs (map leaves_of_ended (told_devices before))

abbrev pub part_count : SharedPart → LeafCount
part_count p = leaves_of_ended (after_pieces told_nothing p.pieces)

pub parts_told : (parts : List SharedPart) (before : List Line)
    → (ended_need (pushed before (flat_map lines_of_part parts)) ≡ needs (map (λ (p : SharedPart). leaves_of_ended (after_pieces told_nothing p.pieces)) parts) + ended_need before)
    × (length (told_devices (pushed before (flat_map lines_of_part parts))) ≡ length parts + length (told_devices before))
parts_told [] before = (omega arith, omega arith)
parts_told (p ∷ parts) before =
    let here = pushed (device_line p.details ∷ before) (flat_map lines_of_piece p.pieces) in
    let same = pushed-append before (lines_of_part p) (flat_map lines_of_part parts) in
    let told = pieces_told p.pieces (device_line p.details ∷ before) told_nothing (told_devices before) refl in
    let rest = parts_told parts here in
    let first = ap (λ (ts : List Told). needs (map leaves_of_ended ts)) told in
    let number = ap (λ (ts : List Told). length ts) told in
    let split = sum_by-cons need_of_leaves (part_count p) (map leaves_of_ended (told_devices before)) in
    let all = sum_by-cons need_of_leaves (part_count p) (map part_count parts) in (
      ap ended_need same ∙ omega (arith, rest.0, first, split, all),
      ap (λ (ls : List Line). length (told_devices ls)) same ∙ omega (arith, rest.1, number),
    )

-- runs that stand together are one piece
same_told : (k m uses : ℕ) (pieces : List ℕ) → k ≡ m → ◌≡◌ {A = Told} (record { own = k ∷ pieces; uses = uses; in_run = true }) (record { own = m ∷ pieces; uses = uses; in_run = true })
same_told k m uses pieces e = rw e refl

more_runs : (runs : List Run) (n uses : ℕ) (pieces : List ℕ) → after_runs (record { own = n ∷ pieces; uses = uses; in_run = true }) runs
    ≡ record { own = (n + length (mappings_of_runs runs)) ∷ pieces; uses = uses; in_run = true }
more_runs [] n uses pieces = same_told n (n + 0) uses pieces (omega arith)
more_runs (r ∷ runs) n uses pieces =
    let size = length-append (mappings_of r) (mappings_of_runs runs) in
    let here = mappings_length r.virtual_block r.data_block r.time r.length in
    let same : (n + r.length) + length (mappings_of_runs runs) ≡ n + length (mappings_of_runs (r ∷ runs)) = omega (arith, size, here) in
    more_runs runs (n + r.length) uses pieces ∙ same_told ((n + r.length) + length (mappings_of_runs runs)) (n + length (mappings_of_runs (r ∷ runs))) uses pieces same

first_runs : (runs : List Run) (x : Told) → x.in_run ≡ false → 1 ≤ length (mappings_of_runs runs)
    → after_runs x runs ≡ record { own = length (mappings_of_runs runs) ∷ x.own; uses = x.uses; in_run = true }
first_runs [] x apart some = absurd (omega arith)
first_runs (r ∷ runs) x apart some =
    let size = length-append (mappings_of r) (mappings_of_runs runs) in
    let here = mappings_length r.virtual_block r.data_block r.time r.length in
    let begun : with_run r.length x ≡ record { own = r.length ∷ x.own; uses = x.uses; in_run = true } = rw apart refl in
    ap (λ (y : Told). after_runs y runs) begun
    ∙ (more_runs runs r.length x.uses x.own ∙ same_told (r.length + length (mappings_of_runs runs)) (length (mappings_of_runs (r ∷ runs))) x.uses x.own (omega (arith, size, here)))

-- what is told of pieces, by their numbers
record IsTold (x next : Told) (pieces : List Piece) : Type 0 where
  leaves : leaves_for next.own ≡ leaves_for x.own + leaves_for (flat_map own_number pieces)
  number : length next.own ≡ length x.own + length (flat_map own_number pieces)
  uses : next.uses ≡ x.uses + length (flat_map uses_of_piece pieces)

abbrev pieces_of_parts : List PartPiece → List Piece
pieces_of_parts pieces = map piece_of_part pieces

own_told : (n : ℕ) (x next : Told) (ms : List Mapping) (pieces : List Piece) → length ms ≡ n
    → IsTold (record { own = n ∷ x.own; uses = x.uses; in_run = true }) next pieces → IsTold x next (own ms ∷ pieces)
own_told n x next ms pieces size is =
    let first = sum_by-cons (λ k. nodes_for (max_entries 8) k) n x.own in
    let here = ap (λ (k : ℕ). nodes_for (max_entries 8) k) size in
    let whole = sum_by-cons (λ k. nodes_for (max_entries 8) k) (length ms) (flat_map own_number pieces) in
    record { leaves = omega (arith, is.leaves, first, whole, here); number = omega (arith, is.number); uses = is.uses }

use_told : (k : ℕ) (x next : Told) (pieces : List Piece) → IsTold (with_use x) next pieces → IsTold x next (shared k ∷ pieces)
use_told k x next pieces is = record { leaves = is.leaves; number = is.number; uses = omega (arith, is.uses) }

all_told : (number : ℕ) (pieces : List PartPiece) (x : Told) → x.in_run ≡ false → ArePieces number (pieces_of_parts pieces) → IsTold x (after_pieces x pieces) (pieces_of_parts pieces)
all_told number [] x apart are = record { leaves = omega arith; number = omega arith; uses = omega arith }
all_told number (own_runs runs ∷ []) x apart are =
    rw (first_runs runs x apart are)
    (own_told (length (mappings_of_runs runs)) x _ (mappings_of_runs runs) [] refl (record { leaves = omega arith; number = omega arith; uses = omega arith }))
all_told number (own_runs runs ∷ own_runs others ∷ pieces) x apart are = absurd are
all_told number (own_runs runs ∷ used_leaf k ∷ pieces) x apart are =
    let next : Told = record { own = length (mappings_of_runs runs) ∷ x.own; uses = x.uses; in_run = true } in
    rw (first_runs runs x apart are.0)
    (own_told (length (mappings_of_runs runs)) x _ (mappings_of_runs runs) (pieces_of_parts (used_leaf k ∷ pieces)) refl
    (use_told k next _ (pieces_of_parts pieces) (all_told number pieces (with_use next) refl are.1.1)))
all_told number (used_leaf k ∷ pieces) x apart are = use_told k x _ (pieces_of_parts pieces) (all_told number pieces (with_use x) refl are.1)

same_count : (s u : ℕ) (a b : List ℕ) (v : ℕ) → leaves_for a ≡ leaves_for b → u ≡ v → leaf_count a u ≡ leaf_count b v
same_count s u a b v leaves uses = ap₂ (λ (l k : ℕ). record { own = l; all = l + k }) leaves uses

-- so a device's leaves are those of its pieces
pub device_told : (number : ℕ) (pieces : List PartPiece) → ArePieces number (map piece_of_part pieces) → leaves_of_ended (after_pieces told_nothing pieces) ≡ leaves_of_pieces (map piece_of_part pieces)
device_told number [] are = refl
device_told number (p ∷ pieces) are =
    let next = after_pieces told_nothing (p ∷ pieces) in
    let all = pieces_of_parts (p ∷ pieces) in
    let is = all_told number (p ∷ pieces) told_nothing refl are in
    let some = piece_some p pieces in
    let many = ne_eqb (length next.own + next.uses) 0 (λ e. omega (arith, is.number, is.uses, some, e)) in
    rw many (same_count 0 next.uses next.own (flat_map own_number all) (length (flat_map uses_of_piece all)) (is.leaves ∙ omega arith) (is.uses ∙ omega arith))
  where
    piece_some : (p : PartPiece) (pieces : List PartPiece) → 1 ≤ length (flat_map own_number (map piece_of_part (p ∷ pieces))) + length (flat_map uses_of_piece (map piece_of_part (p ∷ pieces)))
    piece_some (own_runs runs) pieces = omega arith
    piece_some (used_leaf k) pieces = omega arith
