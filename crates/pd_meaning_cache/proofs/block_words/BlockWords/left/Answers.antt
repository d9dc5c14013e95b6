use Rattle.std.proofs.Common.{arith}
use Rattle.pd_array.specs.Word.{size_of}
use Rattle.pd_tree.proofs.NextLemmas.{few_words}
use Rattle.pd_meaning_cache.proofs.SkipLemmas.{length_words}
use Rattle.pd_meaning_cache.proofs.block_words.BlockWords.left.Goals as goal

pub returns-clause-number : goal.returns-clause-number
returns-clause-number c =
    let long = length_words (size_of c.args.word) c.args.self.now.block.0 c.args.self.now.next in
    omega (arith, long, c.array_len.ensures, c.saturating_sub.ensures)

pub returns-clause-few : goal.returns-clause-few
returns-clause-few c =
    let few = few_words c.args.word c.args.self.now.block.0 in
    omega (arith, few, c.array_len.ensures, c.saturating_sub.ensures)
