use Rattle.std.proofs.Common.{◌≤◌, length, sym, ◌∙◌, arith}
use Rattle.std.proofs.lemmas.Option.{IfSome_then}
use Rattle.pd_array.specs.Word.{size_of}
use Rattle.pd_tree.proofs.NextLemmas.{few_words, words_none, words_outside}
use Rattle.pd_meaning_cache.proofs.block_words.BlockWords.read.Goals as goal

pub returns-else-b-blocks-clause-words : goal.returns-else-b-blocks-clause-words
returns-else-b-blocks-clause-words g c =
    let few = few_words c.args.word c.args.self.now.block.0 in
    IfSome_then (g.D.Device.state c.args.dev.now).held c.blocks-2.ensures.honest (λ image honest.
    let outside : length image ≤ c.args.b = omega arith in
    words_none (size_of c.args.word) c.args.self.now.block.0 4096 (omega arith) ∙ sym (words_outside c.args.word image c.args.b outside))
