use Rattle.std.proofs.Common.{◌≡◌, ◌-◌, ◌++◌, ℕ, List, length, replicate, ap, ap₂, ◌∙◌, arith}
use Rattle.std.proofs.lemmas.List.{take_all}
use Rattle.pd_kinds.proofs.ResultLemmas.{if_both}
use Rattle.pd_meaning_era.specs.EraWords.{era_words}
use Rattle.pd_meaning_era.proofs.WordLemmas.{first_words}
use Rattle.pd_meaning_era.proofs.eras.fill_part.Goals as goal

pub returns-clause-words : goal.returns-clause-words
returns-clause-words g c =
    let taken = c.take_words.new.part in
    let part = taken.items in
    let count = c.args.count in
    let most = c.in_ok-take_words.ensures.most in
    let long : taken.len ≡ length part = omega (arith, taken.ok.0) in
    let filled : c.resize.new.self.items ≡ part ++ replicate (count - length part) 0 =
    c.in_ok-resize.ensures.items ∙ ap₂ (λ (xs ys : List ℕ). xs ++ ys) (take_all count part most) (ap (λ (n : ℕ). replicate (count - n) 0) long) in
    if_both (g.D.Device.state c.args.dev.now).held
    (λ image cut end. filled ∙ first_words (era_words image c.args.words.now) part (era_words image c.take_words.new.words) count cut most end) c.in_ok-take_words.ensures.cut c.in_ok-take_words.ensures.all
