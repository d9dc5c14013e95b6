use Rattle.std.proofs.Common.{◌≡◌, false, filter}
use Rattle.std.specs.Prelude.{slice_index_or}
use Rattle.std.specs.List.{range_with_len}
use Rattle.pd_writeback.proofs.places.ascending.Given as goal

-- the marked ones among the blocks so far
abbrev pub invariant-loop-b : goal.invariant-loop-b
invariant-loop-b l = l.places.items ≡ filter (λ b. slice_index_or l.seen b false) (range_with_len 0 l.b)
