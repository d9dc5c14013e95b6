use Rattle.std.proofs.Common.{take}
use Rattle.pd_grammar.proofs.WordLemmas.{Lacks}
use Rattle.pd_texts.proofs.words.cut_word.Given as goal

abbrev pub invariant-loop-i : goal.invariant-loop-i
invariant-loop-i l = Lacks 32 (take l.i l.bytes)
