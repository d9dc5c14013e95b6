use Rattle.std.proofs.Common.{◌≡◌, ℕ, ◌+◌, ◌-◌, ◌*◌, nat_eq, length, sym, ap, ◌∙◌}
use Rattle.std.specs.Cmp.{nat_eq_equiv}
use Rattle.pd_kinds.specs.Array.{max_words}
use Rattle.pd_kinds.specs.Whole.{array_words}
use Rattle.pd_array.specs.declared.array.Word.{Word}
use Rattle.pd_array.specs.Word.{size_of}
use Rattle.pd_check.specs.Arrays.{array_of, most_of}
use Rattle.pd_check.proofs.ArrayRules.{no_words, words_are}
use Rattle.pd_check.proofs.array_rules.has_words.Goals as goal

pub returns-in-Some : goal.returns-in-Some
returns-in-Some c = λ graph image roles lengths has marked reached same good.
    let number = length (array_words graph image (array_of roles c.args.root lengths)) in
    let most : c.max_words.result ≡ most_of roles = c.max_words.ensures ∙ ap (λ (w : Word). max_words (size_of w)) (sym same) in
    let right =
    words_are graph image c.args.audit.now roles c.args.marks.now c.args.root lengths has marked reached c.in-Some.last c.get.result c.note-blocks.result
    good c.note-blocks.ensures c.get.ensures c.in-Some.is in
    let words : c.words_in.result ≡ number =
    c.words_in.ensures ∙ (ap (λ (m : ℕ). (c.note-blocks.result.below - 1) * m + c.in-Some.last) most ∙ sym right) in
    ap (λ (n : ℕ). nat_eq n c.from.result) words ∙ ap (λ (n : ℕ). nat_eq number n) c.from.ensures

pub returns-in-None : goal.returns-in-None
returns-in-None c = λ graph image roles lengths has marked reached same good.
    let none = no_words graph image c.args.audit.now roles c.args.marks.now c.args.root lengths has marked reached c.get.result c.get.ensures c.in-None.is in
    nat_eq_equiv.symm c.args.words 0 ∙ ap (λ (n : ℕ). nat_eq n c.args.words) (sym none)
