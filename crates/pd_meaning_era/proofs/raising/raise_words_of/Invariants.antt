use Rattle.pd_kinds.specs.Meaning.{is_bit_set}
use Rattle.pd_tree.specs.Cursor.{words_from}
use Rattle.pd_meaning_era.specs.Eras.{AreAtLeast, Raises}
use Rattle.pd_meaning_era.proofs.RaiseLemmas.{holds_upto}
use Rattle.pd_meaning_era.proofs.raising.raise_words_of.Given as goal

-- the words before this one were looked at
abbrev pub invariant-loop-i : goal.invariant-loop-i
invariant-loop-i l = record {
  raised : Raises l.era (holds_upto l.end l.first (words_from 8 l.block.0 l.from) l.i) l.initial.eras l.eras;
  taken : AreAtLeast l.era (is_bit_set l.taken) l.eras;
}
