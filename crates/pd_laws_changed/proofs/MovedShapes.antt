-- The shape of a pool whose data blocks are moved.
use Rattle.std.proofs.Common.{◌≡◌, ℕ, zero, suc, ◌≤◌, List, [], ◌∷◌, ◌++◌, length, map, refl, sym, ap, ap₂, ◌∙◌, subst}
use Rattle.std.specs.List.{AllByRecursion, flat_map}
use Rattle.std.proofs.lemmas.List.{length-map, map-append}
use Rattle.pd_kinds.specs.Meaning.{Mapping, ThinDevice}
use Rattle.pd_grammar.specs.Lawful.{IsLawfulPool}
use Rattle.pd_laid.specs.Shape.{ArePieces, IsShape, Piece, own, shared, ShapeDevice, ThinShape, device_of, leaf_mappings, piece_mappings, pool_of, uses_of, uses_of_piece}
use Rattle.pd_laid.specs.PoolText.{IsLawfulShape}
use Rattle.pd_answers.specs.Shrinks.{Move, moved_device, moved_mapping, moved_pool, moves_to, sources, moved_piece, moved_shape, moved_shape_device}

module _ (moves : List Move) where
  abbrev goes : List Mapping → List Mapping
  goes ms = map (moved_mapping moves) ms

  -- the mappings of a leaf, of a piece, and of pieces
  leaf_moved : (leaves : List (List Mapping)) (number : ℕ) → leaf_mappings (map goes leaves) number ≡ goes (leaf_mappings leaves number)
  leaf_moved [] number = refl
  leaf_moved (ms ∷ leaves) zero = refl
  leaf_moved (ms ∷ leaves) (suc number) = leaf_moved leaves number

  piece_moved : (leaves : List (List Mapping)) (piece : Piece) → piece_mappings (map goes leaves) (moved_piece moves piece) ≡ goes (piece_mappings leaves piece)
  piece_moved leaves (own ms) = refl
  piece_moved leaves (shared number) = leaf_moved leaves number

  pieces_moved : (leaves : List (List Mapping)) (pieces : List Piece)
      → flat_map (piece_mappings (map goes leaves)) (map (moved_piece moves) pieces) ≡ goes (flat_map (piece_mappings leaves) pieces)
  pieces_moved leaves [] = refl
  pieces_moved leaves (piece ∷ pieces) =
      ap₂ (λ (xs ys : List Mapping). xs ++ ys) (piece_moved leaves piece) (pieces_moved leaves pieces)
      ∙ sym (map-append (moved_mapping moves) (piece_mappings leaves piece) (flat_map (piece_mappings leaves) pieces))

  -- a device by its mappings
  abbrev device_with : ShapeDevice → List Mapping → ThinDevice
  device_with d ms = record {
    id = d.id;
    mapped = d.mapped;
    transaction = d.transaction;
    created = d.created;
    snapped = d.snapped;
    mappings = ms;
  }

  devices_moved : (leaves : List (List Mapping)) (ds : List ShapeDevice)
      → map (device_of (map goes leaves)) (map (moved_shape_device moves) ds) ≡ map (moved_device moves) (map (device_of leaves) ds)
  devices_moved leaves [] = refl
  devices_moved leaves (d ∷ ds) =
      ap₂ (λ (x : ThinDevice) (xs : List ThinDevice). x ∷ xs) (ap (device_with d) (pieces_moved leaves d.pieces)) (devices_moved leaves ds)

  -- as many mappings in each leaf
  leaves_keep : (P : ℕ → Type 0) (leaves : List (List Mapping)) → AllByRecursion (λ ms. P (length ms)) leaves → AllByRecursion (λ ms. P (length ms)) (map goes leaves)
  leaves_keep P [] all = tt
  leaves_keep P (ms ∷ leaves) all = (subst P (sym (length-map ms (moved_mapping moves))) all.0, leaves_keep P leaves all.1)

  -- pieces stay pieces
  pieces_keep : (n : ℕ) (pieces : List Piece) → ArePieces n pieces → ArePieces n (map (moved_piece moves) pieces)
  pieces_keep n [] are = tt
  pieces_keep n (own ms ∷ []) are = subst (λ (k : ℕ). 1 ≤ k) (sym (length-map ms (moved_mapping moves))) are
  pieces_keep n (own ms ∷ own others ∷ pieces) are = are
  pieces_keep n (own ms ∷ shared number ∷ pieces) are =
      (subst (λ (k : ℕ). 1 ≤ k) (sym (length-map ms (moved_mapping moves))) are.0, (are.1.0, pieces_keep n pieces are.1.1))
  pieces_keep n (shared number ∷ pieces) are = (are.0, pieces_keep n pieces are.1)

  devices_keep : (n : ℕ) (ds : List ShapeDevice) → AllByRecursion (λ (d : ShapeDevice). ArePieces n d.pieces) ds
      → AllByRecursion (λ (d : ShapeDevice). ArePieces n d.pieces) (map (moved_shape_device moves) ds)
  devices_keep n [] are = tt
  devices_keep n (d ∷ ds) are = (pieces_keep n d.pieces are.0, devices_keep n ds are.1)

  -- uses stay uses
  pieces_use : (pieces : List Piece) → flat_map uses_of_piece (map (moved_piece moves) pieces) ≡ flat_map uses_of_piece pieces
  pieces_use [] = refl
  pieces_use (own ms ∷ pieces) = pieces_use pieces
  pieces_use (shared number ∷ pieces) = ap (λ (uses : List ℕ). number ∷ uses) (pieces_use pieces)

  devices_use : (ds : List ShapeDevice) → flat_map uses_of (map (moved_shape_device moves) ds) ≡ flat_map uses_of ds
  devices_use [] = refl
  devices_use (d ∷ ds) = ap₂ (λ (xs ys : List ℕ). xs ++ ys) (pieces_use d.pieces) (devices_use ds)

pub shape_means : (w : ThinShape) (end : ℕ) (moves : List Move) → pool_of (moved_shape w end moves) ≡ moved_pool (pool_of w) end moves
unfolding pool_of moved_shape moved_pool
shape_means w end moves = ap (λ (ds : List ThinDevice). record (moved_pool (pool_of w) end moves) { devices = ds }) (devices_moved moves w.leaves w.devices)

shape_is : (w : ThinShape) (end : ℕ) (moves : List Move) → IsShape w → IsShape (moved_shape w end moves)
unfolding moved_shape
shape_is w end moves is =
    let leaves = map (goes moves) w.leaves in
    let number : length leaves ≡ length w.leaves = length-map w.leaves (goes moves) in
    record {
      numbers_fit = rw number is.numbers_fit;
      filled = leaves_keep moves (λ k. 1 ≤ k) w.leaves is.filled;
      few = leaves_keep moves (λ k. k ≤ 252) w.leaves is.few;
      pieces =
          subst (λ (n : ℕ). AllByRecursion (λ (d : ShapeDevice). ArePieces n d.pieces) (map (moved_shape_device moves) w.devices)) (sym number)
          (devices_keep moves (length w.leaves) w.devices is.pieces);
      used = λ k within. rw (devices_use moves w.devices) (is.used k (rw number at within));
    }

-- the smaller shape is lawful
pub shape_lawful : ((w : ThinShape) (end : ℕ) (moves : List Move) → pool_of (moved_shape w end moves) ≡ moved_pool (pool_of w) end moves)
    → (w : ThinShape) (end : ℕ) (free : List ℕ) → IsLawfulShape w → IsLawfulPool (moved_pool (pool_of w) end (moves_to (sources (pool_of w) end) free))
    → IsLawfulShape (moved_shape w end (moves_to (sources (pool_of w) end) free))
shape_lawful means w end free lawful after =
    let moves = moves_to (sources (pool_of w) end) free in
    record { shape = shape_is w end moves lawful.shape; pool = subst IsLawfulPool (sym (means w end moves)) after }
