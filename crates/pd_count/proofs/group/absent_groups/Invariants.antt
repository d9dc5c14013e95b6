use Rattle.std.proofs.Common.{◌≡◌, ℕ, length, slice_index_or}
use Rattle.pd_count.specs.Counted.{no_group}
use Rattle.pd_count.proofs.group.absent_groups.Given as goal

abbrev pub invariant-loop : goal.invariant-loop
invariant-loop l = (length l.groups.items ≡ l.counter) × ((i : ℕ) → slice_index_or l.groups.items i no_group ≡ no_group)
