use Rattle.std.proofs.Common.{◌≡◌, ℕ, ◌<◌, ◌==◌, ◌&&◌, ◌||◌, not, false, length, get_or}
use Rattle.std.specs.List.{list_any, range_with_len}
use Rattle.pd_kinds.specs.Node.{child_at}
use Rattle.pd_salvage_cache.proofs.candidates.mark_children.Given as goal

-- the children before this one are marked
abbrev pub invariant-loop-i : goal.invariant-loop-i
invariant-loop-i l = record {
  marked : (c : ℕ) → c < length l.initial.marks
      → get_or l.marks c false ≡ (get_or l.initial.marks c false || (not (l.place == c) && list_any (λ i. child_at l.block.0 i == c) (range_with_len 0 l.i)));
  number : length l.marks ≡ length l.initial.marks;
}
