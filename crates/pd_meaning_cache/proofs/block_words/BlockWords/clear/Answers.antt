use Rattle.std.proofs.Common.{arith}
use Rattle.pd_array.specs.Word.{size_of}
use Rattle.pd_tree.proofs.NextLemmas.{few_words, words_none}
use Rattle.pd_meaning_cache.proofs.block_words.BlockWords.clear.Goals as goal

pub returns : goal.returns
returns c =
    let few = few_words c.args.word c.args.self.now.block.0 in
    words_none (size_of c.args.word) c.args.self.now.block.0 4096 (omega arith)
