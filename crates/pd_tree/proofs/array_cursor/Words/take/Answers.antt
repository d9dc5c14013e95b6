use Rattle.std.proofs.Common.{refl, arith}
use Rattle.pd_array.specs.Word.{size_of}
use Rattle.pd_tree.proofs.NextLemmas.{takes_word, words_none}
use Rattle.pd_tree.proofs.array_cursor.Words.take.Goals as goal

pub returns-then-i-array_len-clause-takes : goal.returns-then-i-array_len-clause-takes
returns-then-i-array_len-clause-takes c = rw c.array_word.ensures.value (takes_word (size_of c.args.word) c.args.self.now (omega arith))

pub returns-else-i-array_len-clause-takes : goal.returns-else-i-array_len-clause-takes
returns-else-i-array_len-clause-takes c = record { same = refl; words = words_none (size_of c.args.word) c.args.self.now.block.0 c.args.self.now.next (omega arith) }
