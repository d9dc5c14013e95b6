-- What is held of a shape, by the runs of its leaves and of its pieces.
use Rattle.std.proofs.Common.{◌≡◌, ℕ, zero, suc, List, [], ◌∷◌, ◌++◌, length, map, take, drop, refl, ap, ap₂, sym, subst, ◌∙◌, Option, Some, None}
use Rattle.std.specs.List.{AllByRecursion}
use Rattle.std.proofs.lemmas.List.{drop-drop, drop-map, length-map, take-append-drop, take-map}
use Rattle.std.proofs.lemmas.List.Sums.{sum_by-cons}
use Rattle.pd_kinds.specs.Meaning.{Mapping}
use Rattle.pd_kinds.proofs.KindsListLemmas.{all_first, all_last}
use Rattle.pd_laid.specs.Shape.{Piece, own, shared, ShapeDevice}
use Rattle.pd_laid.specs.PoolText.{PartPiece, SharedPart, device_of_part, mappings_of_runs, piece_of_part}
use Rattle.pd_answers.specs.Shrinks.{Move, moved_mapping, moved_piece, moved_shape_device}
use Rattle.pd_meaning_thin.specs.declared.joined.Run.{Run}
use Rattle.pd_meaning_thin.specs.Runs.{spelled}
use Rattle.pd_salvage.specs.declared.saved_shape.SavedLeaf.{SavedLeaf}
use Rattle.pd_salvage.specs.declared.saved_shape.SavedPiece.{SavedPiece}
use Rattle.pd_salvage.specs.declared.saved_shape.SavedPiece.TheVariants.{Own, Shared}
use Rattle.pd_salvage.specs.declared.saved_shape.ShapedDevice.{ShapedDevice}
use Rattle.pd_salvage.specs.SavedShape.{AreCounted, IsJoined, IsPartJoined, IsPieceJoined, device_part, device_parts, leaf_parts, piece_part, piece_parts, runs_of_piece, runs_of_pieces}
use Rattle.pd_shrink.specs.Moves.{AreJoined, entries_of_leaf, leaf_of_piece, moved_mappings, runs_of_leaf, split_mappings, split_runs}

-- the mappings of the leaves, how many each says that it has, and that their runs are as long as can be
pub leaves_are : (leaves : List SavedLeaf) (runs : List Run) → map mappings_of_runs (leaf_parts leaves runs) ≡ split_mappings runs_of_leaf leaves runs
leaves_are [] runs = refl
leaves_are (leaf ∷ leaves) runs =
    ap (λ (parts : List (List Mapping)). mappings_of_runs (map spelled (take leaf.runs runs)) ∷ parts) (leaves_are leaves (drop leaf.runs runs))

abbrev pub sizes : List (List Mapping) → List ℕ
sizes parts = map (λ (ms : List Mapping). length ms) parts

pub leaves_count : (leaves : List SavedLeaf) (runs : List Run) → AreCounted leaves runs → map entries_of_leaf leaves ≡ sizes (split_mappings runs_of_leaf leaves runs)
leaves_count [] runs are = refl
leaves_count (leaf ∷ leaves) runs are = ap₂ (λ (n : ℕ) (ns : List ℕ). n ∷ ns) are.0 (leaves_count leaves (drop leaf.runs runs) are.1)

first_same : {m n : ℕ} {ms ns : List ℕ} → m ∷ ms ≡ n ∷ ns → m ≡ n
first_same e = cc

others_same : {m n : ℕ} {ms ns : List ℕ} → m ∷ ms ≡ n ∷ ns → ms ≡ ns
others_same e = cc

pub leaves_counted : (leaves : List SavedLeaf) (runs : List Run) → map entries_of_leaf leaves ≡ sizes (split_mappings runs_of_leaf leaves runs) → AreCounted leaves runs
leaves_counted [] runs same = tt
leaves_counted (leaf ∷ leaves) runs same = (first_same same, leaves_counted leaves (drop leaf.runs runs) (others_same same))

pub leaves_joined : (leaves : List SavedLeaf) (runs : List Run) → AllByRecursion AreJoined (split_runs runs_of_leaf leaves runs) → AllByRecursion IsJoined (leaf_parts leaves runs)
leaves_joined [] runs joined = tt
leaves_joined (leaf ∷ leaves) runs joined = (joined.0, leaves_joined leaves (drop leaf.runs runs) joined.1)

-- as many mappings as before
pub sizes_stay : (moves : List Move) (parts : List (List Mapping)) → sizes (moved_mappings moves parts) ≡ sizes parts
sizes_stay moves [] = refl
sizes_stay moves (ms ∷ parts) = ap₂ (λ (n : ℕ) (ns : List ℕ). n ∷ ns) (length-map ms (moved_mapping moves)) (sizes_stay moves parts)

-- pieces, by the leaves that they are and by their mappings
abbrev pub pieces_by : List (Option ℕ) → List (List Mapping) → List Piece
pieces_by [] parts = []
pieces_by (leaf ∷ leaves) [] = []
pieces_by (None ∷ leaves) (ms ∷ parts) = own ms ∷ pieces_by leaves parts
pieces_by (Some number ∷ leaves) (ms ∷ parts) = shared number ∷ pieces_by leaves parts

pub pieces_are : (ps : List SavedPiece) (runs : List Run) → map piece_of_part (piece_parts ps runs) ≡ pieces_by (map leaf_of_piece ps) (split_mappings runs_of_piece ps runs)
pieces_are [] runs = refl
pieces_are (Own k ∷ ps) runs = ap (λ (pieces : List Piece). own (mappings_of_runs (map spelled (take k runs))) ∷ pieces) (pieces_are ps (drop k runs))
pieces_are (Shared number ∷ ps) runs = ap (λ (pieces : List Piece). shared number ∷ pieces) (pieces_are ps runs)

pub pieces_moved : (moves : List Move) (leaves : List (Option ℕ)) (parts : List (List Mapping)) → pieces_by leaves (moved_mappings moves parts) ≡ map (moved_piece moves) (pieces_by leaves parts)
pieces_moved moves [] parts = refl
pieces_moved moves (None ∷ leaves) [] = refl
pieces_moved moves (Some number ∷ leaves) [] = refl
pieces_moved moves (None ∷ leaves) (ms ∷ parts) = ap (λ (pieces : List Piece). own (map (moved_mapping moves) ms) ∷ pieces) (pieces_moved moves leaves parts)
pieces_moved moves (Some number ∷ leaves) (ms ∷ parts) = ap (λ (pieces : List Piece). shared number ∷ pieces) (pieces_moved moves leaves parts)

pub pieces_joined : (ps : List SavedPiece) (runs : List Run) → AllByRecursion AreJoined (split_runs runs_of_piece ps runs) → AllByRecursion IsPieceJoined (piece_parts ps runs)
pieces_joined [] runs joined = tt
pieces_joined (Own k ∷ ps) runs joined = (joined.0, pieces_joined ps (drop k runs) joined.1)
pieces_joined (Shared number ∷ ps) runs joined = (tt, pieces_joined ps runs joined.1)

-- devices by their pieces
abbrev pub devices_by : List ShapedDevice → List PartPiece → List SharedPart
devices_by [] pieces = []
devices_by (d ∷ ds) pieces = device_part d (take d.pieces pieces) ∷ devices_by ds (drop d.pieces pieces)

pieces_taken : (n : ℕ) (ps : List SavedPiece) (runs : List Run) → piece_parts (take n ps) runs ≡ take n (piece_parts ps runs)
pieces_taken zero ps runs = refl
pieces_taken (suc n) [] runs = refl
pieces_taken (suc n) (p ∷ ps) runs =
    ap (λ (parts : List PartPiece). piece_part p (take (runs_of_piece p) runs) ∷ parts) (pieces_taken n ps (drop (runs_of_piece p) runs))

pieces_dropped : (n : ℕ) (ps : List SavedPiece) (runs : List Run) → piece_parts (drop n ps) (drop (runs_of_pieces (take n ps)) runs) ≡ drop n (piece_parts ps runs)
pieces_dropped zero ps runs = refl
pieces_dropped (suc n) [] runs = refl
pieces_dropped (suc n) (p ∷ ps) runs =
    ap (λ (k : ℕ). piece_parts (drop n ps) (drop k runs)) (sum_by-cons runs_of_piece p (take n ps))
    ∙ (ap (piece_parts (drop n ps)) (sym (drop-drop (runs_of_pieces (take n ps)) (runs_of_piece p) runs)) ∙ pieces_dropped n ps (drop (runs_of_piece p) runs))

pub devices_are : (ds : List ShapedDevice) (ps : List SavedPiece) (runs : List Run) → device_parts ds ps runs ≡ devices_by ds (piece_parts ps runs)
devices_are [] ps runs = refl
devices_are (d ∷ ds) ps runs =
    ap₂ (λ (part : SharedPart) (parts : List SharedPart). part ∷ parts) (ap (device_part d) (pieces_taken d.pieces ps runs))
    (devices_are ds (drop d.pieces ps) (drop (runs_of_pieces (take d.pieces ps)) runs) ∙ ap (devices_by ds) (pieces_dropped d.pieces ps runs))

-- a device with its pieces
abbrev shape_with : ShapedDevice → List Piece → ShapeDevice
shape_with d pieces = record {
  id = d.id;
  mapped = d.details.mapped;
  transaction = d.details.transaction;
  created = d.details.created;
  snapped = d.details.snapped;
  pieces = pieces;
}

abbrev goes : List Move → List Piece → List Piece
goes moves pieces = map (moved_piece moves) pieces

pub devices_moved : (moves : List Move) (ds : List ShapedDevice) (parts parts' : List PartPiece) → map piece_of_part parts' ≡ goes moves (map piece_of_part parts)
    → map device_of_part (devices_by ds parts') ≡ map (moved_shape_device moves) (map device_of_part (devices_by ds parts))
devices_moved moves [] parts parts' same = refl
devices_moved moves (d ∷ ds) parts parts' same =
    ap₂ (λ (x : ShapeDevice) (xs : List ShapeDevice). x ∷ xs)
    (ap (shape_with d)
    (sym (take-map piece_of_part d.pieces parts')
    ∙ (ap (take d.pieces) same ∙ (take-map (moved_piece moves) d.pieces (map piece_of_part parts) ∙ ap (goes moves) (take-map piece_of_part d.pieces parts)))))
    (devices_moved moves ds (drop d.pieces parts) (drop d.pieces parts')
    (sym (drop-map piece_of_part d.pieces parts')
    ∙ (ap (drop d.pieces) same ∙ (drop-map (moved_piece moves) d.pieces (map piece_of_part parts) ∙ ap (goes moves) (drop-map piece_of_part d.pieces parts)))))

pub devices_joined : (ds : List ShapedDevice) (parts : List PartPiece) → AllByRecursion IsPieceJoined parts → AllByRecursion IsPartJoined (devices_by ds parts)
devices_joined [] parts joined = tt
devices_joined (d ∷ ds) parts joined =
    let both : AllByRecursion IsPieceJoined (take d.pieces parts ++ drop d.pieces parts) = subst (AllByRecursion IsPieceJoined) (sym (take-append-drop d.pieces parts)) joined in (
      all_first IsPieceJoined (take d.pieces parts) (drop d.pieces parts) both,
      devices_joined ds (drop d.pieces parts) (all_last IsPieceJoined (take d.pieces parts) (drop d.pieces parts) both),
    )
