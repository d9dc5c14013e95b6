use Rattle.std.proofs.Common.{◌≡◌, ℕ, ◌<◌, ◌≤◌, true}
use Rattle.pd_graph.specs.Audit.{note_at, roles_at}
use Rattle.pd_graph.specs.Marks.{has_bit}
use Rattle.pd_check.proofs.array_nodes.levels.Given as goal

abbrev pub invariant-loop-b : goal.invariant-loop-b
invariant-loop-b l = record {
  few : l.levels ≤ 65;
  above : (b : ℕ) → b < l.b → has_bit (roles_at l.audit b) l.role ≡ true → (note_at l.audit b).height ≤ 64 → (note_at l.audit b).height < l.levels;
}
