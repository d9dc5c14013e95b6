use Rattle.std.proofs.Common.{◌≡◌, map, take}
use Rattle.pd_kinds.specs.Node.{puts}
use Rattle.pd_node.proofs.write.put_values.Given as goal

abbrev pub invariant-loop-i : goal.invariant-loop-i
invariant-loop-i g l = l.block.0 ≡ puts l.initial.block.0 l.at g.V.Value.SIZE (map (λ item. g.V.Value.code item.1) (take l.i l.items))
