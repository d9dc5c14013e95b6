use Rattle.std.proofs.Common.{◌≡◌, map}
use Rattle.std.specs.List.{range_with_len}
use Rattle.pd_bitmap.proofs.Placed.{code_of}
use Rattle.pd_laid.specs.Laid.{index_entry_of}
use Rattle.pd_count.specs.Counted.{count_of}
use Rattle.pd_smwrite.proofs.index.entries_of.Given as goal

abbrev pub invariant-loop-i : goal.invariant-loop-i
invariant-loop-i l = map code_of l.entries.items ≡ map (index_entry_of (count_of l.counts) l.counts.size l.first) (range_with_len 0 l.i)
