use Rattle.std.proofs.Common.{◌≡◌, ℕ, ◌<◌, ◌&&◌, ◌||◌, nat_eq, not, false, length, slice_index_or}
use Rattle.std.specs.List.{list_any, range_with_len}
use Rattle.pd_kinds.specs.Node.{child_at}
use Rattle.pd_graph.specs.Marks.{values_of}
use Rattle.pd_damaged.proofs.marks.mark_children.Given as goal

-- the children before this one are marked
abbrev pub invariant-loop-i : goal.invariant-loop-i
invariant-loop-i g l = record {
  marks : (c : ℕ) → c < length (values_of l.initial.below) → slice_index_or (values_of l.below) c false
      ≡ (slice_index_or (values_of l.initial.below) c false
      || (not (nat_eq l.b c) && list_any (λ (i : ℕ). nat_eq (child_at l.block.0 i) c) (range_with_len 0 l.i)));
  places : length (values_of l.below) ≡ length (values_of l.initial.below);
}
