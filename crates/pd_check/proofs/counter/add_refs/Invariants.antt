use Rattle.std.proofs.Common.{◌≡◌, ℕ, ◌+◌, ◌-◌, ◌^◌, ◌<◌, List, ◌++◌, length, take}
use Rattle.std.specs.List.{AllByRecursion}
use Rattle.pd_count.specs.Counted.{HasCounted}
use Rattle.pd_check.proofs.counter.add_refs.Given as goal

-- the references before this one were counted
abbrev pub invariant-loop-i : goal.invariant-loop-i
invariant-loop-i g l = record {
  size : l.counts.size ≡ l.initial.counts.size;
  counted : (before : List ℕ) → HasCounted l.initial.counts before
      → AllByRecursion (λ d. d < l.initial.counts.size) ((g.F.Format.contents l.fn.format).data_refs l.role l.fn.block.0)
      → length before + length ((g.F.Format.contents l.fn.format).data_refs l.role l.fn.block.0) < 2 ^ 32 - 1
      → HasCounted l.counts (before ++ take l.i ((g.F.Format.contents l.fn.format).data_refs l.role l.fn.block.0));
}
