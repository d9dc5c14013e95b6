use Rattle.std.proofs.Common.{◌≡◌, ◌++◌, List, drop, length}
use Rattle.std.specs.List.{AllByRecursion}
use Rattle.std.specs.Prelude.{sum_by}
use Rattle.pd_kinds.specs.Meaning.{Mapping}
use Rattle.pd_meaning_thin.specs.Packed.{runs_from}
use Rattle.pd_salvage.specs.declared.saved_shape.ShapedDevice.{ShapedDevice}
use Rattle.pd_restore.specs.ShapeNeed.{IsRunIn}
use Rattle.pd_repair.specs.Snaps.{is_twice, seen_shaped, snaps_of}
use Rattle.pd_repair.proofs.seen_shape.seen_devices.Given as goal

-- the devices so far were seen, and what is left is behind their pieces and their runs
abbrev pub invariant-loop-device : goal.invariant-loop-device
invariant-loop-device l = record {
  within : AllByRecursion (IsRunIn l.counted.size) (runs_from l.runs l.place);
  number : sum_by (λ (d : ShapedDevice). d.pieces) (drop l.device-index l.devices) ≡ length l.left;
  joined : (leaves : List (List Mapping)) → l.leaf_snaps ≡ snaps_of (is_twice l.counted) leaves
      → l.seen.items ++ seen_shaped (is_twice l.counted) leaves (drop l.device-index l.devices) l.left (runs_from l.runs l.place) ≡ seen_shaped (is_twice l.counted) leaves l.devices l.pieces l.runs;
}
