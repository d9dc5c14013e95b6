use Rattle.pd_graph.specs.Notes.{note_in}
use Rattle.pd_settle.specs.Looking.{blocks_of_edges}
use Rattle.pd_settle.proofs.LookLemmas.{IsSumming}
use Rattle.pd_settle.proofs.looking.sum_up.Given as goal

abbrev pub invariant-loop-i : goal.invariant-loop-i
invariant-loop-i g l = record {
  sums : IsSumming (note_in l.notes) ((g.F.Format.contents l.format).keys l.role l.block.0)
      (blocks_of_edges ((g.F.Format.contents l.format).edges l.role l.block.0)) l.i l.sum l.in_range;
}
