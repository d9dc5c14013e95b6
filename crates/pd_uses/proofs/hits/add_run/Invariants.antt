use Rattle.std.proofs.Common.{◌≡◌, ◌++◌, filter, map}
use Rattle.std.specs.List.{range_with_len}
use Rattle.pd_uses.specs.Hits.{is_hit, run_hit}
use Rattle.pd_uses.proofs.hits.add_run.Given as goal

abbrev pub invariant-loop-place : goal.invariant-loop-place
invariant-loop-place l = l.hits.items ≡ l.initial.hits.items ++ filter (is_hit l.region) (map (run_hit l.run) (range_with_len 0 l.place))
