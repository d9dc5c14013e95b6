use Rattle.std.proofs.Common.{sym, arith}
use Rattle.pd_array.specs.Word.{size_of}
use Rattle.pd_tree.proofs.NextLemmas.{few_words}
use Rattle.pd_meaning_cache.proofs.SkipLemmas.{length_words, words_drop}
use Rattle.pd_meaning_cache.proofs.block_words.BlockWords.skip.Goals as goal

pub overflow_add-self : goal.overflow_add-self
overflow_add-self c =
    let long = length_words (size_of c.args.word) c.args.self.now.block.0 c.args.self.now.next in
    let few = few_words c.args.word c.args.self.now.block.0 in
    omega (arith, long, few, c.requires)

pub returns : goal.returns
returns c =
    let long = length_words (size_of c.args.word) c.args.self.now.block.0 c.args.self.now.next in
    sym (words_drop (size_of c.args.word) c.args.self.now.block.0 c.args.n c.args.self.now.next (omega (arith, long, c.requires)))
