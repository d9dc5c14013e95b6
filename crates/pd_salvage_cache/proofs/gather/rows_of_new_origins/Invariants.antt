use Rattle.std.proofs.Common.{◌≡◌, ℕ, not, filter, map, take}
use Rattle.std.specs.BTreeSet.{contains}
use Rattle.std.specs.Ordering.{nat_cmp}
use Rattle.pd_laid.specs.SavedCache.{is_repeated}
use Rattle.pd_salvage_cache.specs.declared.saved.Row.{Row}
use Rattle.pd_salvage_cache.specs.SavedCache.{entry}
use Rattle.pd_salvage_cache.proofs.FirstLemmas.{has_origin}
use Rattle.pd_salvage_cache.proofs.gather.rows_of_new_origins.Given as goal

-- of the rows before this one the first of each origin were kept, and their origins were seen
abbrev pub invariant-loop-row : goal.invariant-loop-row
invariant-loop-row l = record {
  kept : l.kept.items ≡ filter (λ (row : Row). not (is_repeated (map entry l.rows) (entry row))) (take l.row-index l.rows);
  seen : (origin : ℕ) → contains nat_cmp l.seen origin ≡ has_origin origin (take l.row-index l.rows);
}
