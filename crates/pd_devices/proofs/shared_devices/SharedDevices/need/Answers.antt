use Rattle.std.proofs.Common.{◌∙◌}
use Rattle.pd_devices.proofs.GatheredNeed.{gathered_need}
use Rattle.pd_devices.proofs.shared_devices.SharedDevices.need.Goals as goal

pub returns : goal.returns
returns c before start now h =
    let parts = c.parts.ensures in
    c.need_of.ensures ∙ gathered_need c.parts.result h parts.fits parts.leaves parts.often parts.trees parts.begun parts.devices parts.blocks parts.over
