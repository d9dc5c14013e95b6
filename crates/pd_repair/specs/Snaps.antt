-- When devices are snapped, by how often data blocks were counted.
-- What is saved of a pool whose superblock is lost: sharing is seen in it.
use Rattle.std.specs.Prelude.{ℕ, ◌+◌, max, Bool, nat_lt, List, [], ◌∷◌, map, filter, fold, take, drop}
use Rattle.std.specs.List.{flat_map}
use Rattle.pd_kinds.specs.Meaning.{Mapping, ThinPool}
use Rattle.pd_kinds.specs.ThinFormat.{ThinFields}
use Rattle.pd_laid.specs.Shape.{piece_mappings, ThinShape}
use Rattle.pd_laid.specs.PoolText.{piece_of_part}
use Rattle.pd_laid.specs.Salvage.{salvage_from, saved_shape_from}
use Rattle.pd_answers.specs.Searches.{seen_pool, seen_shape, timed_pool, timed_shape}
use Rattle.pd_value.specs.declared.thin.Details.{Details}
use Rattle.pd_count.specs.Counted.{Counted, count_of}
use Rattle.pd_meaning_thin.specs.declared.joined.Run.{Run}
use Rattle.pd_salvage.specs.declared.saved.SavedDevice.{SavedDevice}
use Rattle.pd_salvage.specs.declared.saved_shape.SavedPiece.{SavedPiece}
use Rattle.pd_salvage.specs.declared.saved_shape.ShapedDevice.{ShapedDevice}
use Rattle.pd_salvage.specs.Gather.{mappings_of_runs}
use Rattle.pd_salvage.specs.SavedShape.{piece_parts, runs_of_pieces}

-- a data block was counted twice or more
abbrev pub is_twice : Counted → ℕ → Bool
is_twice counts b = nat_lt 1 (count_of counts b)

-- the latest of a time and of one more than that of each mapping whose data block passes a test
abbrev pub snap_after : (ℕ → Bool) → ℕ → List Mapping → ℕ
snap_after test snap ms = fold max snap (map (λ (x : Mapping). x.time + 1) (filter (λ (x : Mapping). test x.data_block) ms))

-- that of no mappings before, for each of some lists of mappings
abbrev pub snaps_of : (ℕ → Bool) → List (List Mapping) → List ℕ
snaps_of test leaves = map (snap_after test 0) leaves

-- details with another snapped time
abbrev pub snapped_at : Details → ℕ → Details
snapped_at d snapped = record { mapped = d.mapped; transaction = d.transaction; created = d.created; snapped = snapped }

-- devices, each with as many of the runs as are its, snapped after those of its mappings whose data blocks pass the test
abbrev pub seen_devices : (ℕ → Bool) → List SavedDevice → List Run → List SavedDevice
seen_devices test [] runs = []
seen_devices test (d ∷ ds) runs =
    record { id = d.id; details = snapped_at d.details (snap_after test d.details.snapped (mappings_of_runs (take d.runs runs))); runs = d.runs }
    ∷ seen_devices test ds (drop d.runs runs)

-- the mappings of pieces, by those of the shared leaves and by the pieces' own runs
abbrev pub mappings_of_pieces : List (List Mapping) → List SavedPiece → List Run → List Mapping
mappings_of_pieces leaves pieces runs = flat_map (piece_mappings leaves) (map piece_of_part (piece_parts pieces runs))

-- the same of devices with pieces, each with as many of the pieces and of the runs as are its
abbrev pub seen_shaped : (ℕ → Bool) → List (List Mapping) → List ShapedDevice → List SavedPiece → List Run → List ShapedDevice
seen_shaped test leaves [] pieces runs = []
seen_shaped test leaves (d ∷ ds) pieces runs =
    record {
      id = d.id;
      details = snapped_at d.details (snap_after test d.details.snapped (mappings_of_pieces leaves (take d.pieces pieces) runs));
      pieces = d.pieces;
    }
    ∷ seen_shaped test leaves ds (drop d.pieces pieces) (drop (runs_of_pieces (take d.pieces pieces)) runs)

-- by a superblock with these fields, with this as the pool's time, with the shared leaves or without
abbrev pub seen_from : ℕ → ThinFields → List (List ℕ) → ThinPool
seen_from time fields image = seen_pool (timed_pool time (salvage_from fields image))

abbrev pub seen_shape_from : ℕ → ThinFields → List (List ℕ) → ThinShape
seen_shape_from time fields image = seen_shape (timed_shape time (saved_shape_from fields image))
