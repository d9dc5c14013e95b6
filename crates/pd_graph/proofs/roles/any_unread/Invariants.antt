use Rattle.std.proofs.Common.{◌≡◌, ℕ, ◌<◌, true, get_or}
use Rattle.pd_graph.specs.Marks.{has_bit}
use Rattle.pd_graph.specs.Marks.{values_of}
use Rattle.pd_graph.proofs.roles.any_unread.Given as goal

abbrev pub invariant-loop-b : goal.invariant-loop-b
invariant-loop-b l = (b : ℕ) → b < l.b → (role : ℕ) → role < 16 → has_bit (get_or (values_of l.seen) b 0) role ≡ true → has_bit (get_or (values_of l.read) b 0) role ≡ true
