use Rattle.std.proofs.Common.{◌≡◌, ◌++◌, map}
use Rattle.std.specs.List.{range_with_len}
use Rattle.pd_uses.specs.Hits.{run_hit, use_of}
use Rattle.pd_uses.proofs.hits.add_run_uses.Given as goal

abbrev pub invariant-loop-place : goal.invariant-loop-place
invariant-loop-place l = l.uses.items ≡ l.initial.uses.items ++ map (use_of l.id) (map (run_hit l.run) (range_with_len 0 l.place))
