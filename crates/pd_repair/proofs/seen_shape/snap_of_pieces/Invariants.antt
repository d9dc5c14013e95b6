use Rattle.std.proofs.Common.{◌≡◌, List, drop}
use Rattle.std.specs.List.{AllByRecursion}
use Rattle.pd_kinds.specs.Meaning.{Mapping}
use Rattle.pd_meaning_thin.specs.Packed.{runs_from}
use Rattle.pd_restore.specs.ShapeNeed.{IsRunIn}
use Rattle.pd_salvage.specs.SavedShape.{runs_of_pieces}
use Rattle.pd_repair.specs.Snaps.{is_twice, mappings_of_pieces, snap_after, snaps_of}
use Rattle.pd_repair.proofs.seen_shape.snap_of_pieces.Given as goal

-- the pieces so far were looked at, and the place is behind their runs
abbrev pub invariant-loop-piece : goal.invariant-loop-piece
invariant-loop-piece l = record {
  within : AllByRecursion (IsRunIn l.counted.size) (runs_from l.runs l.place);
  snap : (leaves : List (List Mapping)) → l.leaf_snaps ≡ snaps_of (is_twice l.counted) leaves
      → snap_after (is_twice l.counted) l.latest (mappings_of_pieces leaves (drop l.piece-index l.pieces) (runs_from l.runs l.place))
      ≡ snap_after (is_twice l.counted) l.snap (mappings_of_pieces leaves l.pieces (runs_from l.runs l.initial.place));
  behind : drop (runs_of_pieces (drop l.piece-index l.pieces)) (runs_from l.runs l.place) ≡ drop (runs_of_pieces l.pieces) (runs_from l.runs l.initial.place);
}
