use Rattle.std.proofs.Common.{◌≡◌, ℕ, ◌<◌, ◌&&◌}
use Rattle.pd_graph.specs.Marks.{has_bit}
use Rattle.pd_scan.specs.Lost.{is_unbroken, is_between}
use Rattle.pd_scan.proofs.lost.roles_between.Given as goal

abbrev pub invariant-loop-role : goal.invariant-loop-role
invariant-loop-role g l =
    (other : ℕ) → other < 16 → has_bit l.roles other ≡ (is_between l.first l.role other && is_unbroken (g.F.Format.graph l.format) other l.b l.block.0)
