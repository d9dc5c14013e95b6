-- The shape whose data blocks were moved, and that its runs and moves fit.
use Rattle.std.proofs.Common.{◌≡◌, ℕ, ◌+◌, ◌^◌, ◌≤◌, List, [], ◌∷◌, ◌++◌, length, map, take, drop, refl, ap, ap₂, sym, subst, ◌∙◌, arith, length-drop, Option}
use Rattle.std.specs.List.{AllByRecursion, flat_map}
use Rattle.std.specs.Prelude.{sum_by}
use Rattle.std.proofs.lemmas.List.{length-map, nil_from_length, take-append-drop}
use Rattle.std.proofs.lemmas.List.Sums.{sum_by-cons, sum_by-take-drop}
use Rattle.pd_kinds.specs.Meaning.{Mapping}
use Rattle.pd_kinds.proofs.ListLemmas.{all_append}
use Rattle.pd_grammar.specs.Lawful.{AreDevices, AreMappings}
use Rattle.pd_laid.specs.Shape.{ShapeDevice, ThinShape, device_of, piece_mappings, pool_of, shared}
use Rattle.pd_laid.specs.PoolText.{IsLawfulShape, SharedPart, device_of_part, mappings_of_runs, piece_of_part}
use Rattle.pd_laid.proofs.LeafRuns.{IsLeaf, are_leaves, mappings_in_front}
use Rattle.pd_answers.specs.Shrinks.{Move, moves_to, sources, moved_piece, moved_shape, moved_shape_device}
use Rattle.pd_meaning_thin.specs.declared.joined.Run.{Run}
use Rattle.pd_meaning_thin.specs.Runs.{spelled}
use Rattle.pd_restore.proofs.ShapeNeedLemmas.{take_front}
use Rattle.pd_restore.proofs.ShapeTextLemmas.{leaves_have}
use Rattle.pd_restore.proofs.ShapePartLemmas.{from_there}
use Rattle.pd_restore.specs.ShapeNeed.{pieces_of}
use Rattle.pd_salvage.specs.declared.saved.SavedHead.{SavedHead}
use Rattle.pd_salvage.specs.declared.saved_shape.SavedLeaf.{SavedLeaf}
use Rattle.pd_salvage.specs.declared.saved_shape.SavedPiece.{SavedPiece}
use Rattle.pd_salvage.specs.declared.saved_shape.SavedPiece.TheVariants.{Own, Shared}
use Rattle.pd_salvage.specs.declared.saved_shape.ShapedDevice.{ShapedDevice}
use Rattle.pd_salvage.specs.SavedShape.{HeldShape, IsPartJoined, IsSavedShape, device_parts, held, held_shape, leaf_parts, piece_parts, runs_of_piece, runs_of_pieces}
use Rattle.pd_laws_changed.specs.KnownPool.{IsMoving}
use Rattle.pd_shrink.specs.declared.moving.Moved.{Moved}
use Rattle.pd_shrink.specs.Moves.{AreMoved, AreMovesFrom, AreMovesOf, FitsRun, entries_of_leaf, head_to, leaf_of_piece, moved_mappings, runs_of_leaf, split_mappings}
use Rattle.pd_shrink.proofs.MovesLemmas.{moves_are_ordered, part_fits}
use Rattle.pd_shrink.proofs.ShapeParts.{devices_are, devices_joined, devices_moved, leaves_are, leaves_count, leaves_counted, leaves_joined, pieces_are, pieces_by, pieces_joined, pieces_moved, sizes, sizes_stay}

-- the runs of leaves that are lawful fit
leaves_fit : (blocks : ℕ) (leaves : List SavedLeaf) (runs : List Run) → blocks ≤ 2 ^ 40 → sum_by runs_of_leaf leaves ≡ length runs → AllByRecursion (IsLeaf blocks) (leaf_parts leaves runs)
    → AllByRecursion FitsRun runs
leaves_fit blocks [] runs few number are = rw (nil_from_length runs (sym number)) tt
leaves_fit blocks (leaf ∷ leaves) runs few number are =
    subst (AllByRecursion FitsRun) (take-append-drop leaf.runs runs)
    (all_append FitsRun (take leaf.runs runs) (drop leaf.runs runs) (part_fits blocks 0 (take leaf.runs runs) few are.0.mappings)
    (leaves_fit blocks leaves (drop leaf.runs runs) few (omega (arith, number, sum_by-cons runs_of_leaf leaf leaves, length-drop leaf.runs runs)) are.1))

-- so do those of pieces
pieces_fit : (blocks least : ℕ) (leaves : List (List Mapping)) (ps : List SavedPiece) (runs : List Run) → blocks ≤ 2 ^ 40
    → AreMappings blocks least (flat_map (piece_mappings leaves) (map piece_of_part (piece_parts ps runs))) → AllByRecursion FitsRun (take (runs_of_pieces ps) runs)
pieces_fit blocks least leaves [] runs few are = tt
pieces_fit blocks least leaves (Own k ∷ ps) runs few are =
    let mine = mappings_of_runs (map spelled (take k runs)) in
    let others = flat_map (piece_mappings leaves) (map piece_of_part (piece_parts ps (drop k runs))) in
    let later = from_there blocks least mine others are in
    let all : take k runs ++ take (runs_of_pieces ps) (drop k runs) ≡ take (runs_of_pieces (Own k ∷ ps)) runs =
    sym (take_front k (runs_of_pieces ps) runs) ∙ ap (λ (n : ℕ). take n runs) (sym (sum_by-cons runs_of_piece (Own k) ps)) in
    subst (AllByRecursion FitsRun) all
    (all_append FitsRun (take k runs) (take (runs_of_pieces ps) (drop k runs)) (part_fits blocks least (take k runs) few (mappings_in_front blocks least mine others are))
    (pieces_fit blocks later.0 leaves ps (drop k runs) few later.1))
pieces_fit blocks least leaves (Shared number ∷ ps) runs few are =
    let others = flat_map (piece_mappings leaves) (map piece_of_part (piece_parts ps runs)) in
    let later = from_there blocks least (piece_mappings leaves (shared number)) others are in
    let same : runs_of_pieces ps ≡ runs_of_pieces (Shared number ∷ ps) = omega (arith, sum_by-cons runs_of_piece (Shared number) ps) in
    subst (λ (n : ℕ). AllByRecursion FitsRun (take n runs)) same (pieces_fit blocks later.0 leaves ps runs few later.1)

devices_fit : (blocks least : ℕ) (leaves : List (List Mapping)) (ds : List ShapedDevice) (ps : List SavedPiece) (runs : List Run) → blocks ≤ 2 ^ 40 → pieces_of ds ≡ length ps
    → runs_of_pieces ps ≡ length runs → AreDevices blocks least (map (device_of leaves) (map device_of_part (device_parts ds ps runs))) → AllByRecursion FitsRun runs
devices_fit blocks least leaves [] ps runs few pieces number are =
    let none : length runs ≡ 0 = sym number ∙ ap runs_of_pieces (nil_from_length ps (sym pieces)) in
    rw (nil_from_length runs none) tt
devices_fit blocks least leaves (d ∷ ds) ps runs few pieces number are =
    let mine = take d.pieces ps in
    let n = runs_of_pieces mine in
    subst (AllByRecursion FitsRun) (take-append-drop n runs)
    (all_append FitsRun (take n runs) (drop n runs) (pieces_fit blocks 0 leaves mine runs few are.0.mappings)
    (devices_fit blocks (d.id + 1) leaves ds (drop d.pieces ps) (drop n runs) few
    (omega (arith, pieces, sum_by-cons (λ (d : ShapedDevice). d.pieces) d ds, length-drop d.pieces ps))
    (omega (arith, number, sum_by-take-drop runs_of_piece ps d.pieces, length-drop n runs)) are.1))

module _ (saved : HeldShape) (sound : IsSavedShape saved) where
  pub leaf_runs_fit : AllByRecursion FitsRun saved.leaf_runs
  unfolding held_shape pool_of
  leaf_runs_fit =
      leaves_fit saved.head.blocks saved.leaves saved.leaf_runs sound.lawful.data_blocks_fit sound.leaf_number
      (are_leaves (held_shape saved) (leaf_parts saved.leaves saved.leaf_runs) refl (leaves_have (leaf_parts saved.leaves saved.leaf_runs) sound.leaves_joined) sound.shape sound.lawful)

  pub own_runs_fit : AllByRecursion FitsRun saved.runs
  unfolding held_shape pool_of
  own_runs_fit =
      devices_fit saved.head.blocks 0 (held_shape saved).leaves saved.devices saved.pieces saved.runs sound.lawful.data_blocks_fit sound.piece_number sound.number sound.lawful.devices

  module _ (end : ℕ) (moves : List Move) (are : AreMovesOf (pool_of (held_shape saved)) end moves) where
    pub shape_moves_ordered : AreMovesFrom (2 ^ 40) end moves
    shape_moves_ordered = moves_are_ordered (pool_of (held_shape saved)) sound.lawful end moves are

    -- the moved leaves, pieces and runs are those of the smaller shape
    module _ (old : SavedHead) (moved : Moved SavedLeaf) (pieced : Moved SavedPiece) (devices : List ShapedDevice) (head_is : old ≡ head_to saved.head end) (devices_are' : devices ≡ saved.devices)
        (leaves : AreMoved runs_of_leaf entries_of_leaf moves saved.leaves saved.leaf_runs moved.parts.items moved.runs)
        (pieces : AreMoved runs_of_piece leaf_of_piece moves saved.pieces saved.runs pieced.parts.items pieced.runs) where
      abbrev after : HeldShape
      after = held old moved.parts.items moved.runs devices pieced.parts.items pieced.runs

      leaves_after : map mappings_of_runs (leaf_parts moved.parts.items moved.runs) ≡ moved_mappings moves (map mappings_of_runs (leaf_parts saved.leaves saved.leaf_runs))
      leaves_after = leaves_are moved.parts.items moved.runs ∙ (leaves.moved ∙ ap (moved_mappings moves) (sym (leaves_are saved.leaves saved.leaf_runs)))

      pieces_after : map piece_of_part (piece_parts pieced.parts.items pieced.runs) ≡ map (moved_piece moves) (map piece_of_part (piece_parts saved.pieces saved.runs))
      pieces_after =
          pieces_are pieced.parts.items pieced.runs
          ∙ (ap₂ pieces_by pieces.same pieces.moved
          ∙ (pieces_moved moves (map leaf_of_piece saved.pieces) (split_mappings runs_of_piece saved.pieces saved.runs) ∙ ap (map (moved_piece moves)) (sym (pieces_are saved.pieces saved.runs))))

      devices_after : map device_of_part (device_parts devices pieced.parts.items pieced.runs) ≡ map (moved_shape_device moves) (map device_of_part (device_parts saved.devices saved.pieces saved.runs))
      devices_after =
          ap (λ (ds : List ShapedDevice). map device_of_part (device_parts ds pieced.parts.items pieced.runs)) devices_are'
          ∙ (ap (map device_of_part) (devices_are saved.devices pieced.parts.items pieced.runs)
          ∙ (devices_moved moves saved.devices (piece_parts saved.pieces saved.runs) (piece_parts pieced.parts.items pieced.runs) pieces_after
          ∙ ap (λ (parts : List SharedPart). map (moved_shape_device moves) (map device_of_part parts)) (sym (devices_are saved.devices saved.pieces saved.runs))))

      -- a shape of this head
      abbrev shape_with : SavedHead → List (List Mapping) → List ShapeDevice → ThinShape
      shape_with head ls ds = record {
        uuid = head.uuid;
        time = head.time;
        transaction = head.transaction;
        block_size = head.block_size;
        data_blocks = head.blocks;
        leaves = ls;
        devices = ds;
      }

      pub shape_after : held_shape after ≡ moved_shape (held_shape saved) end moves
      unfolding held_shape moved_shape
      shape_after =
          ap (λ (head : SavedHead). shape_with head (map mappings_of_runs (leaf_parts moved.parts.items moved.runs)) (map device_of_part (device_parts devices pieced.parts.items pieced.runs))) head_is
          ∙ ap₂ (shape_with (head_to saved.head end)) leaves_after devices_after

      pub shape_sound : ((w : ThinShape) (end : ℕ) (free : List ℕ) → IsLawfulShape w → IsMoving (pool_of w) end free → IsLawfulShape (moved_shape w end (moves_to (sources (pool_of w) end) free)))
          → IsSavedShape after
      shape_sound law =
          let w = held_shape saved in
          let lawful = law w end are.free (record { shape = sound.shape; pool = sound.lawful }) are.moving in
          let here : IsLawfulShape (held_shape after) =
          subst IsLawfulShape (sym shape_after) (subst (λ (xs : List Move). IsLawfulShape (moved_shape w end xs)) (sym are.are) lawful) in
          let counted : map entries_of_leaf moved.parts.items ≡ sizes (split_mappings runs_of_leaf moved.parts.items moved.runs) =
          leaves.same
          ∙ (leaves_count saved.leaves saved.leaf_runs sound.counted
          ∙ (sym (sizes_stay moves (split_mappings runs_of_leaf saved.leaves saved.leaf_runs)) ∙ ap sizes (sym leaves.moved))) in
          record {
            shape = here.shape;
            lawful = here.pool;
            counted = leaves_counted moved.parts.items moved.runs counted;
            leaves_joined = leaves_joined moved.parts.items moved.runs leaves.joined;
            joined =
                subst (AllByRecursion IsPartJoined) (sym (devices_are devices pieced.parts.items pieced.runs))
                (devices_joined devices (piece_parts pieced.parts.items pieced.runs) (pieces_joined pieced.parts.items pieced.runs pieces.joined));
            leaf_number = leaves.number;
            piece_number =
                ap pieces_of devices_are'
                ∙ (sound.piece_number
                ∙ (sym (length-map saved.pieces leaf_of_piece) ∙ (ap (λ (xs : List (Option ℕ)). length xs) (sym pieces.same) ∙ length-map pieced.parts.items leaf_of_piece)));
            number = pieces.number;
          }
