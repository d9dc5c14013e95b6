use Rattle.std.proofs.Common.{get_or, refl, take}
use Rattle.pd_kinds.proofs.KindsListLemmas.{all_rest}
use Rattle.pd_meaning_thin.specs.Packed.{runs_from}
use Rattle.pd_salvage.specs.SavedShape.{runs_of_pieces}
use Rattle.pd_restore.specs.ShapeNeed.{IsRunIn}
use Rattle.pd_repair.specs.Snaps.{is_twice, seen_shaped}
use Rattle.pd_repair.proofs.SnapLemmas.{no_shaped, pieces_left, pieces_there, shaped_next, shaped_over}
use Rattle.pd_repair.proofs.seen_shape.seen_devices.Goals as goal

pub loop-device-init : goal.loop-device-init
loop-device-init c = record {
  within = rw c.first-place.ensures c.requires.within;
  number = c.requires.number;
  joined = λ leaves snaps. rw (c.in_ok-seen.ensures.items, c.first-place.ensures) refl;
}

pub split_at-requires : goal.split_at-requires
split_at-requires c = pieces_there c.args.devices.now c.loop-device.device-index no_shaped c.loop-device.left.now c.loop-device-test.true c.loop-device.invariant.number

pub snap_of_pieces-snapped-requires : goal.snap_of_pieces-snapped-requires
snap_of_pieces-snapped-requires c = c.loop-device.invariant.within

pub loop-device-preserved : goal.loop-device-preserved
loop-device-preserved c =
    let here = runs_from c.args.runs.now c.loop-device.place in
    let left = c.loop-device.left.now in
    let test = is_twice c.args.counted.now in
    let n = (get_or c.args.devices.now c.loop-device.device-index no_shaped).pieces in
    let behind = rw c.split_at.ensures.front at c.snap_of_pieces-snapped.ensures.behind in
    record {
      within = rw behind (all_rest (IsRunIn c.args.counted.now.size) (runs_of_pieces (take n left)) here c.loop-device.invariant.within);
      number = pieces_left c.args.devices.now c.loop-device.device-index no_shaped left c.split_at.result.1.now c.loop-device-test.true c.loop-device.invariant.number c.split_at.ensures.back;
      joined = λ leaves snaps. rw c.in_ok-push.ensures.items
          (shaped_next test leaves c.args.devices.now c.loop-device.device-index no_shaped c.loop-device.seen.items c.snap_of_pieces-snapped.result left c.split_at.result.1.now here
          (runs_from c.args.runs.now c.snap_of_pieces-snapped.new.place) (seen_shaped test leaves c.args.devices.now c.args.pieces.now c.args.runs.now) c.loop-device-test.true
          (rw c.split_at.ensures.front at (c.snap_of_pieces-snapped.ensures.snap leaves snaps)) c.split_at.ensures.back behind (c.loop-device.invariant.joined leaves snaps));
    }

pub returns : goal.returns
returns c leaves snaps =
    let test = is_twice c.args.counted.now in
    shaped_over test leaves c.args.devices.now c.loop-device.device-index c.loop-device.seen.items c.loop-device.left.now (runs_from c.args.runs.now c.loop-device.place)
    (seen_shaped test leaves c.args.devices.now c.args.pieces.now c.args.runs.now) c.loop-device-test.false (c.loop-device.invariant.joined leaves snaps)
