use Rattle.std.proofs.Common.{refl, sym, ◌∙◌, arith}
use Rattle.pd_devices.proofs.GatherLemmas.{gathered_start}
use Rattle.pd_devices.proofs.shared_devices.SharedDevices.new.Goals as goal

pub returns : goal.returns
returns c p start blocks first closed =
    let counted = c.in_ok-new.ensures in
    let uses = c.in_ok-new-2.ensures in
    gathered_start c.args.room p _ start first closed (omega (arith, blocks, c.requires.blocks)) (counted.size ∙ sym blocks) counted.none counted.total
    uses.size uses.none uses.total refl c.new-3.ensures.items refl c.new-4.ensures.items c.new-5.ensures.items c.new-6.ensures refl
