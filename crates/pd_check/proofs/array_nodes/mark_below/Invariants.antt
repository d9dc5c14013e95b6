use Rattle.std.proofs.Common.{◌≡◌, drop}
use Rattle.pd_settle.specs.Looking.{blocks_of_edges}
use Rattle.pd_check.specs.Arrays.{joined, no_mark}
use Rattle.pd_check.specs.Arrays.{mark_at}
use Rattle.pd_check.proofs.array_nodes.mark_below.Given as goal

abbrev pub invariant-loop-i : goal.invariant-loop-i
invariant-loop-i g l =
    let cs = blocks_of_edges ((g.F.Format.contents l.format).edges l.role l.block.0) in
    joined l.most (mark_at l.marks) l.mark (drop l.i cs) ≡ joined l.most (mark_at l.marks) no_mark cs
