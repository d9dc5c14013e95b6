use Rattle.std.proofs.Common.{◌≡◌, ◌<◌, ◌^◌, Some, refl, sym, ◌∙◌, arith}
use Rattle.pd_devices.proofs.DeviceLemmas.{gathered_ended, gathered_room, on_ok}
use Rattle.pd_devices.proofs.devices.Devices.end.Goals as goal

pub finish-requires-clause-room : goal.finish-requires-clause-room
finish-requires-clause-room g c =
    let so_far = c.requires.gathered.so_far in
    let growing : c.args.self.now.growing ≡ Some c.in-Some.field-0 = sym c.take.ensures.value ∙ c.in-Some.is in
    omega (arith, gathered_room so_far.before so_far.room c.in-Some.field-0 so_far.gathered growing so_far.need, so_far.there)

pub returns-in_ok-root-in-Some-clause-gathered : goal.returns-in_ok-root-in-Some-clause-gathered
returns-in_ok-root-in-Some-clause-gathered g c before start h none =
    let growing : c.args.self.now.growing ≡ Some c.in-Some.field-0 = sym c.take.ensures.value ∙ c.in-Some.is in
    let fits : c.in_ok-root-in-Some.root < 2 ^ 64 = omega arith in
    let ends = c.in_ok-root-in-Some.ensures in
    on_ok c.append.result c.append.ensures.items
    (λ items. gathered_ended before c.args.self.now _ c.in-Some.field-0 c.in_ok-root-in-Some.root h none growing c.take.ensures.after refl refl refl items ends.wrote ends.root fits)
