use Rattle.std.proofs.Common.{◌≡◌, ◌+◌, ◌-◌}
use Rattle.std.specs.List.{list_any, range_with_len}
use Rattle.pd_repair.specs.Snaps.{is_twice}
use Rattle.pd_repair.proofs.seen.has_shared.Given as goal

-- none of the blocks so far was counted twice
abbrev pub invariant-loop-i : goal.invariant-loop-i
invariant-loop-i l =
    list_any (is_twice l.counted) (range_with_len (l.run.target + l.i) (l.run.length - l.i)) ≡ list_any (is_twice l.counted) (range_with_len l.run.target l.run.length)
