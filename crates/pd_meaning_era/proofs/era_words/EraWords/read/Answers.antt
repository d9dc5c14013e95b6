use Rattle.std.proofs.Common.{◌≤◌, length, sym, ◌∙◌, arith}
use Rattle.std.proofs.lemmas.Option.{IfSome_then}
use Rattle.pd_array.specs.declared.array.Word.TheVariants.{Four}
use Rattle.pd_tree.proofs.NextLemmas.{few_words, words_none, words_outside}
use Rattle.pd_meaning_era.proofs.era_words.EraWords.read.Goals as goal

pub returns-then-b-blocks-clause-words : goal.returns-then-b-blocks-clause-words
returns-then-b-blocks-clause-words g c =
    let few = few_words Four c.args.self.now.block.0 in
    IfSome_then (g.D.Device.state c.args.dev.now).held c.blocks-2.ensures.honest (λ image honest.
    let outside : length image ≤ c.args.b = omega arith in
    words_none 4 c.args.self.now.block.0 4096 (omega arith) ∙ sym (words_outside Four image c.args.b outside))
