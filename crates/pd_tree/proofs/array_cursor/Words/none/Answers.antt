use Rattle.std.proofs.Common.{arith}
use Rattle.pd_array.specs.Word.{size_of}
use Rattle.pd_tree.proofs.NextLemmas.{few_words, words_none}
use Rattle.pd_tree.proofs.array_cursor.Words.none.Goals as goal

pub returns : goal.returns
returns c =
    let few = few_words c.args.word c.zeros.result.0 in
    words_none (size_of c.args.word) c.zeros.result.0 4096 (omega arith)
