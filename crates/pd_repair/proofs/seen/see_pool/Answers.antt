use Rattle.std.proofs.Common.{List, ap, arith, map, max, ◌∙◌}
use Rattle.std.specs.Prelude.{fold}
use Rattle.pd_salvage.specs.declared.saved.SavedDevice.{SavedDevice}
use Rattle.pd_salvage.specs.Saved.{pool_of}
use Rattle.pd_restore.proofs.SavedNeedLemmas.{runs_in_pool}
use Rattle.pd_repair.proofs.SeenLemmas.{seen_is, seen_sound}
use Rattle.pd_repair.proofs.seen.see_pool.Goals as goal

pub seen_devices-requires : goal.seen_devices-requires
seen_devices-requires c = rw (c.in_ok-counted.ensures.size, c.runs.ensures) (runs_in_pool c.args.saved c.head.ensures.sound)

pub with_devices-requires : goal.with_devices-requires
with_devices-requires c =
    seen_sound c.args.saved c.in_ok-counted.counted c.in_ok-counted.ensures.counted c.args.time c.raised_time.result c.latest_snap-latest.result c.in_ok-devices.devices.items
    (rw (c.devices.ensures, c.runs.ensures) at c.in_ok-devices.ensures)
    (c.latest_snap-latest.ensures ∙ ap (λ (ds : List SavedDevice). fold max 0 (map (λ (d : SavedDevice). d.details.snapped) ds)) c.as_slice.ensures.value)
    c.raised_time.ensures (omega arith) c.head.ensures.sound

pub returns : goal.returns
returns c =
    ap pool_of c.with_devices.ensures
    ∙ seen_is c.args.saved c.in_ok-counted.counted c.in_ok-counted.ensures.counted c.args.time c.raised_time.result c.latest_snap-latest.result c.in_ok-devices.devices.items
    (rw (c.devices.ensures, c.runs.ensures) at c.in_ok-devices.ensures)
    (c.latest_snap-latest.ensures ∙ ap (λ (ds : List SavedDevice). fold max 0 (map (λ (d : SavedDevice). d.details.snapped) ds)) c.as_slice.ensures.value)
    c.raised_time.ensures
