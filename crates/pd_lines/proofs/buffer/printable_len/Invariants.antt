use Rattle.std.proofs.Common.{◌-◌, ◌≤◌, length}
use Rattle.pd_lines.specs.Front.{ArePrintable}
use Rattle.pd_lines.proofs.buffer.printable_len.Given as goal

abbrev pub invariant-loop-at : goal.invariant-loop-at
invariant-loop-at l = (l.at ≤ length l.bytes) × ArePrintable l.bytes 0 l.at

abbrev pub decreases-loop-at : goal.decreases-loop-at
decreases-loop-at l = length l.bytes - l.at
