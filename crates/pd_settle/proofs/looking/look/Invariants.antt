use Rattle.std.proofs.Common.{◌≡◌, nat_lt, true, take}
use Rattle.std.specs.List.{list_all}
use Rattle.pd_graph.specs.Notes.{size_of, note_in}
use Rattle.pd_settle.specs.Looking.{blocks_of_edges, is_low}
use Rattle.pd_settle.proofs.looking.look.Given as goal

abbrev pub invariant-loop-i : goal.invariant-loop-i
invariant-loop-i g l = record {
  within : list_all (λ c. nat_lt c (size_of l.notes)) (take l.i (blocks_of_edges ((g.F.Format.contents l.format).edges l.role l.block.0))) ≡ true;
  low : list_all (λ c. is_low (note_in l.notes c)) (take l.i (blocks_of_edges ((g.F.Format.contents l.format).edges l.role l.block.0))) ≡ true;
}
