use Rattle.std.proofs.Common.{◌*◌, ◌<◌, ◌≤◌, max, ℕ}
use Rattle.pd_count.specs.Counted.{count_of}
use Rattle.pd_smwrite.proofs.bitmaps.next_high.Given as goal

abbrev pub invariant-loop-i : goal.invariant-loop-i
invariant-loop-i l = (b : ℕ) → l.from ≤ b → b < max l.from (16320 * l.i) → count_of l.counts b < 3
