use Rattle.std.proofs.Common.{List, ℕ, get_or, ap, sym, ◌∙◌, arith}
use Rattle.pd_array.specs.Word.{size_of}
use Rattle.pd_meaning_cache.proofs.SkipLemmas.{length_words, words_first}
use Rattle.pd_meaning_cache.proofs.block_words.BlockWords.first.Goals as goal

pub array_word-requires : goal.array_word-requires
array_word-requires c =
    let long = length_words (size_of c.args.word) c.args.self.now.block.0 c.args.self.now.next in
    omega (arith, long, c.requires)

pub returns-clause-first : goal.returns-clause-first
returns-clause-first c =
    let long = length_words (size_of c.args.word) c.args.self.now.block.0 c.args.self.now.next in
    c.array_word.ensures.value
    ∙ sym (ap (λ (words : List ℕ). get_or words 0 0) (words_first (size_of c.args.word) c.args.self.now.block.0 c.args.self.now.next (omega (arith, long, c.requires))))
