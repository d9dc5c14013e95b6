use Rattle.std.proofs.Common.{◌≡◌, ◌+◌, ◌||◌, get_or, length, sym, ◌∙◌, arith}
use Rattle.pd_array.specs.declared.array.Word.TheVariants.{Eight}
use Rattle.pd_tree.specs.Cursor.{words_from}
use Rattle.pd_tree.proofs.NextLemmas.{few_words}
use Rattle.pd_meaning_era.specs.Eras.{holds_from, holds_in_word}
use Rattle.pd_meaning_era.proofs.RaiseLemmas.{raises_none, raises_same, raises_then}
use Rattle.pd_meaning_era.proofs.RaiseLemmas.{holds_upto, length-words, upto_all, upto_more, upto_none, word_in}
use Rattle.pd_meaning_era.proofs.raising.raise_words_of.Goals as goal

pub overflow_add-first : goal.overflow_add-first
overflow_add-first c = let few = few_words Eight c.args.block.now.0 in omega arith

pub loop-i-init : goal.loop-i-init
loop-i-init c = record {
  raised = raises_none c.args.era _ c.args.eras.now (λ b within. upto_none c.args.end c.args.first (words_from 8 c.args.block.now.0 c.args.from) b);
  taken = c.requires.taken;
}

pub loop-i-preserved : goal.loop-i-preserved
loop-i-preserved c =
    let words = words_from 8 c.args.block.now.0 c.args.from in
    let i = c.loop-i.i in
    let word = c.array_word-word.result in
    let is : word ≡ get_or words i 0 = c.array_word-word.ensures.value ∙ sym (word_in 8 c.args.block.now.0 c.args.from i (omega arith)) in
    record {
      raised =
          raises_same c.args.era (λ b. holds_upto c.args.end c.args.first words i b || holds_in_word c.args.end (c.args.first + i) word b) (holds_upto c.args.end c.args.first words (i + 1)) c.args.eras.now c.raise_fresh.new.eras
          (λ b within. upto_more c.args.end c.args.first words i word b is)
          (raises_then c.args.era (holds_upto c.args.end c.args.first words i) (holds_in_word c.args.end (c.args.first + i) word) c.args.eras.now c.loop-i.eras c.raise_fresh.new.eras c.loop-i.invariant.raised c.raise_fresh.ensures.raised);
      taken = c.raise_fresh.ensures.taken;
    }

pub returns-clause-raised : goal.returns-clause-raised
returns-clause-raised c =
    let words = words_from 8 c.args.block.now.0 c.args.from in
    let number = length-words 8 c.args.block.now.0 c.args.from in
    let all : c.loop-i.i ≡ length words = omega (arith, c.loop-i-test.false, c.loop-i.auto.i-end) in
    raises_same c.args.era (holds_upto c.args.end c.args.first words c.loop-i.i) (holds_from c.args.end c.args.first words) c.args.eras.now c.loop-i.eras
    (λ b within. upto_all c.args.end c.args.first words c.loop-i.i b all) c.loop-i.invariant.raised
