use Rattle.std.proofs.Common.{◌≡◌, take}
use Rattle.pd_grammar.specs.EraText.{eras_from}
use Rattle.pd_texts_kinds.proofs.era_lines.run_length.Given as goal

abbrev pub invariant-loop-i : goal.invariant-loop-i
invariant-loop-i l = take l.i l.eras ≡ eras_from l.era l.i
