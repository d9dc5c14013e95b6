use Rattle.std.proofs.Common.{◌≡◌, true, take}
use Rattle.std.specs.List.{list_all}
use Rattle.pd_settle.specs.Looking.{blocks_of_edges}
use Rattle.pd_scan.specs.Partners.{is_noted_good}
use Rattle.pd_scan.proofs.tops.are_named_good.Given as goal

abbrev pub invariant-loop-i : goal.invariant-loop-i
invariant-loop-i g l = list_all (is_noted_good l.notes) (take l.i (blocks_of_edges ((g.F.Format.contents l.format).edges l.role l.block.0))) ≡ true
