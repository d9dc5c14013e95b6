use Rattle.std.proofs.Common.{◌+◌, map, drop}
use Rattle.pd_kept.specs.Kept.{lacks}
use Rattle.pd_kept.specs.Kept.{saved_pair}
use Rattle.pd_kept.specs.Kept.{pair_of}
use Rattle.pd_kept.proofs.LackingLemmas.{ascends_here, lacks_here, lacks_later, lacks_none, left_here, none_stored, some_stored}
use Rattle.pd_kept.proofs.latest.lacks_details.Goals as goal

pub returns-then-is_none : goal.returns-then-is_none
returns-then-is_none c =
    let devices = c.args.devices.now in
    let stored = c.args.stored.now in
    let i = c.loop-device.device-index in
    let all = lacks (map saved_pair devices) (map pair_of stored) in
    let at = c.behind_lesser-at.result in
    let left = left_here devices i _ c.loop-device-test.true all (map pair_of (drop c.loop-device.at stored)) c.loop-device.invariant in
    let ascend = ascends_here devices i _ c.loop-device-test.true all (map pair_of (drop c.loop-device.at stored)) c.loop-device.invariant in
    lacks_here all _ _ (map saved_pair (drop (i + 1) devices)) (map pair_of (drop at stored)) (c.behind_lesser-at.ensures all _ left ascend)
    (none_stored _ c.stored_at.result at stored c.if-is_none.ensures c.stored_at.ensures.stored)

pub loop-device-preserved : goal.loop-device-preserved
loop-device-preserved c =
    let devices = c.args.devices.now in
    let stored = c.args.stored.now in
    let i = c.loop-device.device-index in
    let all = lacks (map saved_pair devices) (map pair_of stored) in
    let at = c.behind_lesser-at.result in
    let left = left_here devices i _ c.loop-device-test.true all (map pair_of (drop c.loop-device.at stored)) c.loop-device.invariant in
    let ascend = ascends_here devices i _ c.loop-device-test.true all (map pair_of (drop c.loop-device.at stored)) c.loop-device.invariant in
    let found = some_stored _ c.stored_at.result at stored c.if-is_none.ensures c.stored_at.ensures.stored in
    lacks_later all _ _ found.0 (map saved_pair (drop (i + 1) devices)) (map pair_of (drop at stored)) (map pair_of (drop (at + 1) stored)) (c.behind_lesser-at.ensures all _ left ascend) found.1

pub returns : goal.returns
returns c =
    lacks_none (lacks (map saved_pair c.args.devices.now) (map pair_of c.args.stored.now)) c.args.devices.now c.loop-device.device-index (map pair_of (drop c.loop-device.at c.args.stored.now))
    c.loop-device-test.false c.loop-device.invariant
