use Rattle.std.proofs.Common.{◌≡◌, ◌++◌, drop, map}
use Rattle.std.specs.List.{AllByRecursion}
use Rattle.pd_laid.specs.PoolText.{mappings_of_runs}
use Rattle.pd_meaning_thin.specs.Packed.{runs_from}
use Rattle.pd_salvage.specs.SavedShape.{leaf_parts}
use Rattle.pd_restore.specs.ShapeNeed.{IsRunIn}
use Rattle.pd_repair.specs.Snaps.{is_twice, snaps_of}
use Rattle.pd_repair.proofs.seen_shape.snaps_of_leaves.Given as goal

-- the leaves so far were looked at, and the place is behind their runs
abbrev pub invariant-loop-leaf : goal.invariant-loop-leaf
invariant-loop-leaf l = record {
  within : AllByRecursion (IsRunIn l.counted.size) (runs_from l.runs l.place);
  joined : l.snaps.items ++ snaps_of (is_twice l.counted) (map mappings_of_runs (leaf_parts (drop l.leaf-index l.leaves) (runs_from l.runs l.place)))
      ≡ snaps_of (is_twice l.counted) (map mappings_of_runs (leaf_parts l.leaves l.runs));
}
