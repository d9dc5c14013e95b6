use Rattle.pd_meaning_era.specs.Eras.{Raises}
use Rattle.pd_meaning_era.proofs.RaiseLemmas.{holds_bits}
use Rattle.pd_meaning_era.proofs.raising.raise_word.Given as goal

-- the bits before this one were looked at
abbrev pub invariant-loop-i : goal.invariant-loop-i
invariant-loop-i l = Raises l.era (holds_bits l.end l.number l.word l.i) l.initial.eras l.eras
