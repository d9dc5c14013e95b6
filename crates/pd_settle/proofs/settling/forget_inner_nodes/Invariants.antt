use Rattle.std.proofs.Common.{◌≡◌, ℕ, ◌<◌, ◌≤◌}
use Rattle.pd_graph.specs.Notes.{size_of, note_in}
use Rattle.pd_settle.proofs.settling.forget_inner_nodes.Given as goal

abbrev pub invariant-loop-b : goal.invariant-loop-b
invariant-loop-b l = record {
  low : (c : ℕ) → c < l.b → (note_in l.notes c).height ≤ 1;
  leaves : (c : ℕ) → (note_in l.initial.notes c).height ≤ 1 → note_in l.notes c ≡ note_in l.initial.notes c;
  kept : size_of l.notes ≡ size_of l.initial.notes;
}
