use Rattle.std.proofs.Common.{◌≡◌, filter, map}
use Rattle.std.specs.List.{range_with_len}
use Rattle.pd_kinds.specs.Node.{key_at, value_at}
use Rattle.pd_meaning_thin.specs.Runs.{block_time_of}
use Rattle.pd_uses.specs.HitRuns.{joined_hits}
use Rattle.pd_uses.specs.Hits.{hit_of, is_hit}
use Rattle.pd_uses.proofs.hits.hits_of_leaf.Given as goal

abbrev pub invariant-loop-i : goal.invariant-loop-i
invariant-loop-i l = joined_hits l.joining ≡ filter (is_hit l.region) (map hit_of (map (λ i. (key_at l.block.0 i, block_time_of (value_at 8 l.block.0 i))) (range_with_len 0 l.i)))
