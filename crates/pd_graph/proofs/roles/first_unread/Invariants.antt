use Rattle.std.proofs.Common.{◌≡◌, ℕ, ◌<◌, true}
use Rattle.pd_graph.specs.Marks.{has_bit}
use Rattle.pd_graph.proofs.roles.first_unread.Given as goal

abbrev pub invariant-loop-role : goal.invariant-loop-role
invariant-loop-role l = (role : ℕ) → role < l.role → has_bit l.seen role ≡ true → has_bit l.read role ≡ true
