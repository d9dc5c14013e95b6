use Rattle.std.proofs.Common.{take}
use Rattle.pd_lines.specs.Front.{IsUnbroken}
use Rattle.pd_lines.proofs.buffer.find_end.Given as goal

abbrev pub invariant-loop-i : goal.invariant-loop-i
invariant-loop-i l = IsUnbroken (take l.i l.bytes)
