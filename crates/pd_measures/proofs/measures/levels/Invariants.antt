use Rattle.std.proofs.Common.{ℕ, ◌<◌, ◌≤◌}
use Rattle.pd_graph.specs.Notes.{note_in}
use Rattle.pd_measures.proofs.measures.levels.Given as goal

abbrev pub invariant-loop-b : goal.invariant-loop-b
invariant-loop-b l = record {
  some : 1 ≤ l.levels;
  few : l.levels ≤ 65;
  above : (b : ℕ) → b < l.b → (note_in l.notes b).height ≤ 64 → (note_in l.notes b).height < l.levels;
}
