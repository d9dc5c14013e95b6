use Rattle.std.proofs.Common.{◌≡◌, ◌≤◌, ◌++◌, max}
use Rattle.pd_shrink.specs.Making.{blocks_between}
use Rattle.pd_shrink.proofs.sources.add_blocks.Given as goal

abbrev pub invariant-loop-b : goal.invariant-loop-b
invariant-loop-b l = record {
  added : l.found.items ≡ l.initial.found.items ++ blocks_between l.first l.b;
  most : l.b ≤ max l.first l.stop;
}
