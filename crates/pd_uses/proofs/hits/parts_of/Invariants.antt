use Rattle.std.proofs.Common.{take}
use Rattle.pd_uses.specs.Parts.{AreParts}
use Rattle.pd_uses.proofs.hits.parts_of.Given as goal

abbrev pub invariant-loop-leaf : goal.invariant-loop-leaf
invariant-loop-leaf l = AreParts l.part (take l.leaf-index l.leaves) l.parts.items
