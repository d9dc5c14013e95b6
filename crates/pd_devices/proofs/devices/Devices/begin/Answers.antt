use Rattle.std.proofs.Common.{◌≡◌, ◌<◌, ◌^◌, ltb, ◌&&◌, true, refl, arith}
use Rattle.std.proofs.lemmas.Bool.{lt-ltb}
use Rattle.pd_devices.proofs.DeviceLemmas.{gathered_begun}
use Rattle.pd_devices.proofs.devices.Devices.begin.Goals as goal

pub returns-clause-begun : goal.returns-clause-begun
returns-clause-begun c before start now closed h =
    let d = c.args.details in
    let mapped : d.mapped < 2 ^ 64 = omega arith in
    let transaction : d.transaction < 2 ^ 64 = omega arith in
    let created : d.created < 2 ^ 32 = omega arith in
    let snapped : d.snapped < 2 ^ 32 = omega arith in
    let fits : (ltb d.mapped (2 ^ 64) && (ltb d.transaction (2 ^ 64) && (ltb d.created (2 ^ 32) && ltb d.snapped (2 ^ 32)))) ≡ true =
    rw (lt-ltb d.mapped (2 ^ 64) mapped, lt-ltb d.transaction (2 ^ 64) transaction, lt-ltb d.created (2 ^ 32) created, lt-ltb d.snapped (2 ^ 32) snapped) refl in
    let begun = c.in_ok-builder.ensures in
    gathered_begun before c.args.self.now _ c.args.id d c.in_ok-builder.builder closed h
    (record { blocks = begun.blocks; root = begun.root; items = begun.items; room = begun.room }) begun.low
    refl refl refl c.add_tree-self.ensures c.in_ok-append.ensures.items fits
