use Rattle.std.proofs.Common.{◌≡◌, length, ◌∙◌, ap}
use Rattle.pd_count.specs.Counted.{Counted}
use Rattle.pd_devices.proofs.DeviceLemmas.{gathered_need}
use Rattle.pd_devices.proofs.devices.Devices.need.Goals as goal

pub returns : goal.returns
returns c before start now h =
    let s = c.args.self.now in
    let blocks = c.size-blocks.ensures.size ∙ ap (λ (counts : Counted). counts.size) c.counts.ensures in
    let devices : c.len-devices.result ≡ length s.details.items = c.len-devices.ensures ∙ s.details.ok.0 in
    rw (c.need_of.ensures, blocks, devices, c.over.ensures.count) (gathered_need before c.args.room h)
