use Rattle.std.proofs.Common.{List, ap, arith, map, max, ◌∙◌}
use Rattle.std.specs.Prelude.{fold}
use Rattle.pd_salvage.specs.declared.saved_shape.ShapedDevice.{ShapedDevice}
use Rattle.pd_salvage.specs.SavedShape.{held_shape}
use Rattle.pd_restore.proofs.ShapePartLemmas.{leaf_runs_in, own_runs_in}
use Rattle.pd_repair.proofs.SeenShapes.{leaves_of, seen_shape_is, seen_shape_sound}
use Rattle.pd_repair.proofs.seen_shape.see_shape.Goals as goal

pub snaps_of_leaves-requires : goal.snaps_of_leaves-requires
snaps_of_leaves-requires c = rw (c.in_ok-counted.ensures.size, c.leaf_runs.ensures) (leaf_runs_in c.args.saved c.head.ensures.sound)

pub seen_devices-requires-clause-within : goal.seen_devices-requires-clause-within
seen_devices-requires-clause-within c = rw (c.in_ok-counted.ensures.size, c.runs.ensures) (own_runs_in c.args.saved c.head.ensures.sound)

pub seen_devices-requires-clause-number : goal.seen_devices-requires-clause-number
seen_devices-requires-clause-number c = rw (c.devices.ensures, c.pieces.ensures) c.head.ensures.sound.piece_number

pub with_devices-requires : goal.with_devices-requires
with_devices-requires c =
    let snaps = rw (c.leaves.ensures, c.leaf_runs.ensures) at (c.as_slice.ensures.value ∙ c.in_ok-leaf_snaps.ensures) in
    seen_shape_sound c.args.saved c.in_ok-counted.counted c.in_ok-counted.ensures.counted c.args.time c.raised_time.result c.latest_snap-latest.result c.in_ok-devices.devices.items
    (rw (c.devices.ensures, c.pieces.ensures, c.runs.ensures) at (c.in_ok-devices.ensures (leaves_of c.args.saved) snaps))
    (c.latest_snap-latest.ensures ∙ ap (λ (ds : List ShapedDevice). fold max 0 (map (λ (d : ShapedDevice). d.details.snapped) ds)) c.as_slice-2.ensures.value)
    c.raised_time.ensures (omega arith) c.head.ensures.sound

pub returns : goal.returns
returns c =
    let snaps = rw (c.leaves.ensures, c.leaf_runs.ensures) at (c.as_slice.ensures.value ∙ c.in_ok-leaf_snaps.ensures) in
    ap held_shape c.with_devices.ensures
    ∙ seen_shape_is c.args.saved c.in_ok-counted.counted c.in_ok-counted.ensures.counted c.args.time c.raised_time.result c.latest_snap-latest.result c.in_ok-devices.devices.items
    (rw (c.devices.ensures, c.pieces.ensures, c.runs.ensures) at (c.in_ok-devices.ensures (leaves_of c.args.saved) snaps))
    (c.latest_snap-latest.ensures ∙ ap (λ (ds : List ShapedDevice). fold max 0 (map (λ (d : ShapedDevice). d.details.snapped) ds)) c.as_slice-2.ensures.value)
    c.raised_time.ensures
