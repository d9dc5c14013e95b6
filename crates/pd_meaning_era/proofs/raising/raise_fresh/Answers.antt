use Rattle.std.proofs.Common.{◌*◌, ◌+◌, ℕ, List, inl, inr, subst, sym, arith}
use Rattle.std.proofs.lemmas.Bool.{cases_lt}
use Rattle.pd_kinds.specs.Meaning.{is_bit_set}
use Rattle.pd_meaning_era.specs.Eras.{AreAtLeast, holds_in_word}
use Rattle.pd_meaning_era.proofs.RaiseLemmas.{raises_none}
use Rattle.pd_meaning_era.proofs.RaiseLemmas.{fresh_raises, raised_high, still_high, taken_more, word_past}
use Rattle.pd_meaning_era.proofs.raising.raise_fresh.Goals as goal

pub returns-then-number-div_ceil-clause-raised : goal.returns-then-number-div_ceil-clause-raised
returns-then-number-div_ceil-clause-raised c = raises_none c.args.era _ c.args.eras.now (λ b within. word_past c.args.end c.args.number c.args.word b (omega arith))

pub returns-clause-raised : goal.returns-clause-raised
returns-clause-raised c = fresh_raises c.args.era c.args.end c.args.number c.args.word c.args.taken.now c.args.eras.now c.raise_word.new.eras c.requires.taken c.raise_word.ensures

pub returns-clause-taken : goal.returns-clause-taken
returns-clause-taken c =
    let era = c.args.era in
    let taken = c.args.taken.now in
    let raised = fresh_raises era c.args.end c.args.number c.args.word taken c.args.eras.now c.raise_word.new.eras c.requires.taken c.raise_word.ensures in
    let known = still_high era era era (holds_in_word c.args.end c.args.number c.args.word) (is_bit_set taken) c.args.eras.now c.raise_word.new.eras (omega arith) raised c.requires.taken in
    elim (cases_lt c.args.end (64 * c.args.number + 64)) [
      | inl part ↦ subst (λ (words : List ℕ). AreAtLeast era (is_bit_set words) c.raise_word.new.eras) (sym (c.take.ensures.part part)) known
      | inr whole ↦
          taken_more era c.args.end c.args.number c.args.word taken c.take.new.taken c.raise_word.new.eras (omega arith) whole (c.take.ensures.whole whole) known
          (raised_high era (holds_in_word c.args.end c.args.number c.args.word) c.args.eras.now c.raise_word.new.eras raised)
    ]
