use Rattle.std.proofs.Common.{refl, arith}
use Rattle.pd_array.specs.Word.{size_of}
use Rattle.pd_tree.proofs.NextLemmas.{words_none}
use Rattle.pd_meaning_cache.proofs.SkipLemmas.{words_first}
use Rattle.pd_meaning_cache.proofs.block_words.BlockWords.take.Goals as goal

pub returns-then-i-array_len : goal.returns-then-i-array_len
returns-then-i-array_len c = rw c.array_word.ensures.value (words_first (size_of c.args.word) c.args.self.now.block.0 c.args.self.now.next (omega arith), omega arith)

pub returns-else-i-array_len : goal.returns-else-i-array_len
returns-else-i-array_len c = (refl, words_none (size_of c.args.word) c.args.self.now.block.0 c.args.self.now.next (omega arith))
