use Rattle.std.proofs.Common.{◌≡◌, take}
use Rattle.std.specs.List.{list_any}
use Rattle.pd_meaning_cache.specs.OriginSet.{is_set}
use Rattle.pd_meaning_cache.proofs.origin_set.is_any_set.Given as goal

-- the numbers before this one were looked at
abbrev pub invariant-loop-i : goal.invariant-loop-i
invariant-loop-i l = l.found ≡ list_any (is_set l.bits) (take l.i l.numbers)
