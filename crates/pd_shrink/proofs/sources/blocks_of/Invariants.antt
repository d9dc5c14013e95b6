use Rattle.std.proofs.Common.{◌≡◌, ◌++◌, drop}
use Rattle.pd_shrink.specs.Making.{union_from}
use Rattle.pd_shrink.proofs.sources.blocks_of.Given as goal

-- the blocks so far, and those of the rows that are left
abbrev pub invariant-loop-span : goal.invariant-loop-span
invariant-loop-span l = l.found.items ++ union_from l.least (drop l.span-index l.spans) ≡ union_from 0 l.spans
