use Rattle.std.proofs.Common.{refl, arith}
use Rattle.pd_kinds.proofs.ResultLemmas.{on_ok_both}
use Rattle.pd_devices.proofs.DeviceLemmas.{gathered_run, gathered_few, gathered_room, gathered_some}
use Rattle.pd_devices.specs.Gathered.{data_in}
use Rattle.pd_devices.proofs.devices.Devices.add_run.Goals as goal

pub count_run-requires-clause-few : goal.count_run-requires-clause-few
count_run-requires-clause-few g c =
    let so_far = c.requires.gathered.so_far in
    gathered_few so_far.before so_far.room c.args.run.length so_far.gathered so_far.need so_far.most c.requires.gathered.follows.enough

pub put_run-requires-clause-room : goal.put_run-requires-clause-room
put_run-requires-clause-room g c =
    let so_far = c.requires.gathered.so_far in
    omega (arith, gathered_room so_far.before so_far.room c.in-Some.growing so_far.gathered c.in-Some.is so_far.need, so_far.there)

pub returns-in-Some-clause-gathered : goal.returns-in-Some-clause-gathered
returns-in-Some-clause-gathered g c before start h follows =
    let counted = c.in_ok-count_run.ensures in
    on_ok_both c.put_run.result c.put_run.ensures.grows c.put_run.ensures.raised
    (λ grows raised. gathered_run before c.args.self.now _ c.in-Some.growing _ _ h follows c.in-Some.is refl refl refl refl refl counted.size counted.total
    (counted.listed (data_in before) h.counted) grows raised)

pub returns-in-None-clause-gathered : goal.returns-in-None-clause-gathered
returns-in-None-clause-gathered g c before start h follows = absurd (gathered_some before h c.in-None.is (omega (arith, follows.some, follows.enough)))
