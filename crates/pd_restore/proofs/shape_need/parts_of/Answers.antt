use Rattle.std.proofs.Common.{List, ap, length, refl}
use Rattle.pd_salvage.specs.declared.saved.SavedHead.{SavedHead}
use Rattle.pd_salvage.specs.declared.saved_shape.SavedLeaf.{SavedLeaf}
use Rattle.pd_salvage.specs.declared.saved_shape.ShapedDevice.{ShapedDevice}
use Rattle.pd_restore.proofs.ShapePartLemmas.{uses_below}
use Rattle.pd_restore.proofs.shape_need.parts_of.Goals as goal

pub often_of-requires : goal.often_of-requires
often_of-requires c = rw (c.leaves.ensures, c.pieces.ensures) (uses_below c.args.saved.now c.head.ensures.sound)

pub returns : goal.returns
returns c = record {
  sound = c.head.ensures.sound;
  leaves = ap (λ (ls : List SavedLeaf). length ls) c.leaves.ensures;
  often = rw (c.leaves.ensures, c.pieces.ensures) at c.in-Ok.ensures;
  trees = rw (c.devices.ensures, c.pieces-2.ensures, c.runs.ensures) at c.in_ok-trees.ensures;
  begun = refl;
  devices = ap (λ (ds : List ShapedDevice). length ds) c.devices-2.ensures;
  blocks = ap (λ (head : SavedHead). head.blocks) c.head.ensures.head;
  thrice = refl;
}
