use Rattle.std.proofs.Common.{◌≡◌, map, take}
use Rattle.pd_kinds.specs.Node.{puts}
use Rattle.pd_answers.specs.Writebacks.{long_words, settled_word}
use Rattle.pd_writeback.proofs.marking.put_settled.Given as goal

-- the words so far were written
abbrev pub invariant-loop-i : goal.invariant-loop-i
invariant-loop-i l = l.made.0 ≡ puts l.initial.made.0 24 8 (map (settled_word l.version) (take l.i (long_words l.block.0)))
