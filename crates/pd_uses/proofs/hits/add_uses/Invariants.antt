use Rattle.std.proofs.Common.{◌≡◌, ◌++◌, map, take}
use Rattle.pd_uses.specs.Hits.{use_of}
use Rattle.pd_uses.proofs.hits.add_uses.Given as goal

abbrev pub invariant-loop-hit : goal.invariant-loop-hit
invariant-loop-hit l = l.uses.items ≡ l.initial.uses.items ++ map (use_of l.id) (take l.hit-index l.hits)
