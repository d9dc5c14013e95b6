use Rattle.std.proofs.Common.{◌≡◌, IfSome, sym, subst, ◌∙◌}
use Rattle.std.proofs.lemmas.Option.{IfSome_then}
use Rattle.pd_tree.proofs.NextLemmas.{if_both}
use Rattle.pd_salvage_cache.specs.Fuller.{words_at}
use Rattle.pd_salvage_cache.proofs.FullerLemmas.{are_fuller, not_fuller}
use Rattle.pd_salvage_cache.proofs.candidates.fuller_words.Goals as goal

pub returns-then-end-keys_of-clause-words : goal.returns-then-end-keys_of-clause-words
returns-then-end-keys_of-clause-words g c =
    IfSome_then (g.D.Device.state c.args.dev.now).held c.in_ok-end.ensures.end (λ image is known.
    not_fuller c.args.s.now image c.args.root c.in_ok-end.end is (λ same. c.if-end-keys_of.true (same ∙ sym c.keys_of.ensures)))

pub returns-clause-words : goal.returns-clause-words
returns-clause-words g c =
    if_both (g.D.Device.state c.args.dev.now).held
    (λ image held is seen known.
    are_fuller c.args.s.now image c.args.root c.in_ok-end.end c.args.known c.above.result c.in_ok-words.words is (c.if-end-keys_of.false ∙ c.keys_of.ensures) known seen c.above.ensures)
    c.in_ok-end.ensures.end
    (subst (λ o. IfSome o (λ image. c.in_ok-words.words ≡ words_at c.args.s.now image c.args.root c.args.s.now.blocks)) c.in_ok-end.ensures.kept.held c.in_ok-words.ensures.words)
