use Rattle.std.proofs.Common.{◌≡◌, ℕ, ◌^◌, nat_lt, true}
use Rattle.std.specs.List.{list_all, range_with_len}
use Rattle.pd_kinds.specs.Node.{key_at}
use Rattle.pd_damaged.proofs.loose.are_ids.Given as goal

-- the keys before this one are ids
abbrev pub invariant-loop-i : goal.invariant-loop-i
invariant-loop-i g l = list_all (λ (i : ℕ). nat_lt (key_at l.block.0 i) (2 ^ 24)) (range_with_len 0 l.i) ≡ true
