use Rattle.std.proofs.Common.{◌≡◌, ◌<◌, ◌^◌, ltb, ◌&&◌, true, refl, arith}
use Rattle.std.proofs.lemmas.Bool.{lt-ltb}
use Rattle.pd_devices.proofs.GatherLemmas.{gathered_begun}
use Rattle.pd_devices.proofs.shared_devices.SharedDevices.begin.Goals as goal

pub returns-clause-begun : goal.returns-clause-begun
returns-clause-begun c room before start now closed h =
    let d = c.args.details in
    let mapped : d.mapped < 2 ^ 64 = omega arith in
    let transaction : d.transaction < 2 ^ 64 = omega arith in
    let created : d.created < 2 ^ 32 = omega arith in
    let snapped : d.snapped < 2 ^ 32 = omega arith in
    let fits : (ltb d.mapped (2 ^ 64) && (ltb d.transaction (2 ^ 64) && (ltb d.created (2 ^ 32) && ltb d.snapped (2 ^ 32)))) ≡ true =
    rw (lt-ltb d.mapped (2 ^ 64) mapped, lt-ltb d.transaction (2 ^ 64) transaction, lt-ltb d.created (2 ^ 32) created, lt-ltb d.snapped (2 ^ 32) snapped) refl in
    gathered_begun before c.args.self.now _ c.args.id d _ h (λ leaves e id none. c.new.ensures leaves e now id none closed) fits
    refl refl refl refl refl refl c.in_ok-append.ensures.items refl refl
