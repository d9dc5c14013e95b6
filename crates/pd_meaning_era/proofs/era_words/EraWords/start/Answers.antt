use Rattle.std.proofs.Common.{ap, arith}
use Rattle.pd_array.specs.declared.array.Word.TheVariants.{Four}
use Rattle.pd_tree.specs.Cursor.{words_of_items}
use Rattle.pd_tree.proofs.NextLemmas.{few_words, words_none}
use Rattle.pd_meaning_era.proofs.era_words.EraWords.start.Goals as goal

pub returns : goal.returns
returns c = record {
  words = λ image.
      let few = few_words Four c.zeros.result.0 in
      rw (words_none 4 c.zeros.result.0 4096 (omega arith)) (ap (words_of_items 4 image) (c.in_ok-entries.ensures.items image));
}
