use Rattle.std.proofs.Common.{◌≡◌, ◌++◌}
use Rattle.std.specs.List.{AllByRecursion, filter_map, range_with_len}
use Rattle.pd_salvage_cache.specs.Arrays.{row_held}
use Rattle.pd_salvage_cache.specs.SavedCache.{FitsRow}
use Rattle.pd_salvage_cache.proofs.arrays.Arrays.add_rows.Given as goal

-- the rows of the blocks before this one were added
abbrev pub invariant-loop-i : goal.invariant-loop-i
invariant-loop-i l = record {
  rows : l.rows.items ≡ l.initial.rows.items ++ filter_map (row_held l.self) (range_with_len l.first l.i);
  fit : AllByRecursion FitsRow (filter_map (row_held l.self) (range_with_len l.first l.i));
}
