use Rattle.std.proofs.Common.{◌≡◌, ℕ, ◌&&◌, not, cond, nat_lt}
use Rattle.pd_graph.specs.Notes.{size_of, note_in}
use Rattle.pd_settle.specs.Settled.{is_fit}
use Rattle.pd_settle.specs.Looking.{bad_note}
use Rattle.pd_settle.proofs.in_role.rule_out_each.Given as goal

abbrev pub invariant-loop-b : goal.invariant-loop-b
invariant-loop-b l = record {
  notes : (c : ℕ) → note_in l.notes c ≡ cond (nat_lt c l.b && not (is_fit l.fit l.role c)) bad_note (note_in l.initial.notes c);
  number : size_of l.notes ≡ size_of l.initial.notes;
}
