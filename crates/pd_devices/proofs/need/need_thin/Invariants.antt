use Rattle.std.proofs.Common.{◌≡◌, ◌-◌, ◌^◌, min, sum_by, take}
use Rattle.pd_grammar.specs.Need.{need_tree}
use Rattle.pd_devices.proofs.need.need_thin.Given as goal

abbrev pub invariant-loop-mapped : goal.invariant-loop-mapped
invariant-loop-mapped l = l.trees ≡ min (sum_by (need_tree 8) (take l.mapped-index l.devices)) (2 ^ 64 - 1)
