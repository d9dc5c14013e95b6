use Rattle.std.proofs.Common.{◌≡◌, take}
use Rattle.pd_image.specs.Step.{AreWhole}
use Rattle.pd_image.proofs.mem_device.copied.Given as goal

abbrev pub invariant-loop-block : goal.invariant-loop-block
invariant-loop-block l = record {
  items : l.blocks.items ≡ take l.block-index l.image;
  whole : AreWhole l.blocks.items;
}
