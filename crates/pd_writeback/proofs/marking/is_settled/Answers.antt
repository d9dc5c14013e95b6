use Rattle.std.proofs.Common.{◌≡◌, ℕ, ◌+◌, sym, ap, ◌∙◌, subst, arith, eq-eqb, nat_eq}
use Rattle.std.proofs.lemmas.Bool.{ne_eqb}
use Rattle.pd_kinds.specs.Array.{word_at, word_count}
use Rattle.pd_answers.specs.Writebacks.{settled_word}
use Rattle.pd_writeback.proofs.UnchangedLemmas.{all_pass, one_fails}
use Rattle.pd_writeback.proofs.marking.is_settled.Goals as goal

pub returns-then-settled_word-word : goal.returns-then-settled_word-word
returns-then-settled_word-word c =
    let block = c.args.block.now.0 in
    let v = c.args.version in
    let i = c.loop-i.i in
    let here : 0 + i ≡ i = omega arith in
    let value = c.array_word-word.ensures.value in
    sym (one_fails (λ word. nat_eq (settled_word v word) word) (word_at 8 block) 0 (word_count 8 block) i (let n = c.array_len-i-end.ensures in let below = c.loop-i-test.true in omega arith)
    (ne_eqb (settled_word v (word_at 8 block (0 + i))) (word_at 8 block (0 + i))
    (λ same. c.if-settled_word-word.true
    (c.settled_word.ensures ∙ (ap (settled_word v) value ∙ (subst (λ (j : ℕ). settled_word v (word_at 8 block j) ≡ word_at 8 block j) here same ∙ sym value))))))

pub returns : goal.returns
returns c =
    let block = c.args.block.now.0 in
    let v = c.args.version in
    let n = c.array_len-i-end.ensures in
    let past = c.loop-i-test.false in
    sym (all_pass (λ word. nat_eq (settled_word v word) word) (word_at 8 block) 0 (word_count 8 block)
    (λ k within.
    let here : k ≡ 0 + k = omega arith in
    eq-eqb (settled_word v (word_at 8 block (0 + k))) (word_at 8 block (0 + k))
    (subst (λ (j : ℕ). settled_word v (word_at 8 block j) ≡ word_at 8 block j) here (c.loop-i.invariant k (omega arith)))))
