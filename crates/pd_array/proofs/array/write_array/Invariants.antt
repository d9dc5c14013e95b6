use Rattle.std.proofs.Common.{◌≡◌, take}
use Rattle.pd_kinds.specs.Node.{puts}
use Rattle.pd_array.specs.Word.{size_of}
use Rattle.pd_array.proofs.array.write_array.Given as goal

abbrev pub invariant-loop-i : goal.invariant-loop-i
invariant-loop-i l = l.block.0 ≡ puts l.initial.block.0 24 (size_of l.word) (take l.i l.words)
