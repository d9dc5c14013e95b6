use Rattle.std.proofs.Common.{◌≡◌, ℕ, ◌≤◌, not, count_by}
use Rattle.std.specs.List.{range_with_len}
use Rattle.pd_kinds.specs.Graph.{is_outside}
use Rattle.pd_kinds.specs.Node.{child_at}
use Rattle.pd_damaged.proofs.loose.inside_of_inner.Given as goal

-- those before this one were counted
abbrev pub invariant-loop-i : goal.invariant-loop-i
invariant-loop-i g l = record {
  count : l.inside ≡ count_by (λ (i : ℕ). not (is_outside l.nr (child_at l.block.0 i))) (range_with_len 0 l.i);
  few : l.inside ≤ l.i;
}
