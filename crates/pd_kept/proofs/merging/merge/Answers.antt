use Rattle.std.proofs.Common.{[], map, drop}
use Rattle.pd_kept.specs.Kept.{lines_at_all, saved_pair}
use Rattle.pd_kept.specs.Kept.{pair_of}
use Rattle.pd_kept.proofs.TellingLemmas.{all_told, no_device, tells_begun}
use Rattle.pd_kept.proofs.merging.merge.Goals as goal

pub loop-device-init : goal.loop-device-init
loop-device-init c =
    tells_begun (map saved_pair c.args.devices.now) (map pair_of c.args.stored.now) c.new-merged.result.items c.new-merged.ensures.items c.requires.saved c.requires.stored

pub returns : goal.returns
returns c =
    let stored = c.args.stored.now in
    let devices = c.args.devices.now in
    let all = lines_at_all (map saved_pair devices) (map pair_of stored) in
    all_told all c.add_lost.new.merged.items (map pair_of (drop c.in_ok-add_lost.field-0 stored))
    (c.in_ok-add_lost.ensures all [] (no_device all c.loop-device.merged.items devices c.loop-device.device-index (map pair_of (drop c.loop-device.at stored)) c.loop-device-test.false c.loop-device.invariant) tt)
