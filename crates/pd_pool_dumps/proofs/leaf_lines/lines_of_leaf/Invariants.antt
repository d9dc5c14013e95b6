use Rattle.std.proofs.Common.{map}
use Rattle.std.specs.List.{range_with_len}
use Rattle.pd_kinds.specs.Node.{key_at, value_at}
use Rattle.pd_meaning_thin.specs.Runs.{block_time_of}
use Rattle.pd_meaning_thin.specs.Runs.{mapping_of}
use Rattle.pd_pool_dumps.specs.LeafText.{AreTaken}
use Rattle.pd_pool_dumps.proofs.leaf_lines.lines_of_leaf.Given as goal

-- the mappings before this one were taken
abbrev pub invariant-loop-i : goal.invariant-loop-i
invariant-loop-i l =
    AreTaken (map mapping_of (map (λ i. (key_at l.block.0 i, block_time_of (value_at 8 l.block.0 i))) (range_with_len 0 l.i))) l.lines.first l.lines.joined l.lines.text l.lines.counts
