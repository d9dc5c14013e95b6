use Rattle.std.proofs.Common.{ℕ, ◌-◌, List}
use Rattle.std.specs.List.{range_with_len}
use Rattle.pd_kinds.specs.CacheFormat.{CacheFields}
use Rattle.pd_salvage_cache.specs.Fuller.{AreFirst}
use Rattle.pd_salvage_cache.proofs.order.first_roots.Given as goal

-- the first roots among the blocks that were passed, from the last one down
abbrev pub invariant-loop-passed : goal.invariant-loop-passed
invariant-loop-passed l =
    (fields : CacheFields) (image : List (List ℕ)) → AreFirst fields image l.words l.children (range_with_len (l.nr - l.passed) l.passed) l.choices.items
