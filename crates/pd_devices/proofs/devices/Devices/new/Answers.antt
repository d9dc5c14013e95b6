use Rattle.std.proofs.Common.{refl, sym, ◌∙◌, arith}
use Rattle.pd_devices.proofs.DeviceLemmas.{gathered_start}
use Rattle.pd_devices.proofs.devices.Devices.new.Goals as goal

pub returns : goal.returns
returns c p start blocks first closed =
    let counted = c.in_ok-new.ensures in
    gathered_start p _ start first closed (omega (arith, blocks, c.requires)) (counted.size ∙ sym blocks) counted.none counted.total refl c.new-2.ensures.items c.new-3.ensures.items refl
