use Rattle.pd_lines.specs.Front.{ArePrintable}
use Rattle.pd_lines.proofs.buffer.printable_end.Given as goal

abbrev pub invariant-loop-i : goal.invariant-loop-i
invariant-loop-i l = ArePrintable l.bytes l.at l.i
