use Rattle.std.proofs.Common.{◌≡◌, true, false, sym, ◌∙◌, arith}
use Rattle.std.proofs.lemmas.Bool.{ne_eqb, eq-eqb}
use Rattle.pd_kinds.specs.Whole.{is_valid_word}
use Rattle.pd_kinds.specs.Array.{word_at}
use Rattle.pd_meaning_cache.proofs.SkipLemmas.{any_here, any_later, any_none}
use Rattle.pd_meaning_cache.proofs.block_words.BlockWords.has_valid.Goals as goal

pub returns-then-array_word-eq1 : goal.returns-then-array_word-eq1
returns-then-array_word-eq1 c =
    let block = c.args.self.now.block.0 in
    let word = c.array_word.ensures.value in
    let valid : is_valid_word (word_at 8 block c.loop-i.i) ≡ true = eq-eqb _ 1 (omega (arith, word, c.if-array_word-eq1.true)) in
    sym (any_here block c.loop-i.i (omega arith) valid) ∙ c.loop-i.invariant

pub loop-i-preserved : goal.loop-i-preserved
loop-i-preserved c =
    let block = c.args.self.now.block.0 in
    let word = c.array_word.ensures.value in
    let other : is_valid_word (word_at 8 block c.loop-i.i) ≡ false = ne_eqb _ 1 (λ e. omega (arith, e, word, c.if-array_word-eq1.false)) in
    sym (any_later block c.loop-i.i (omega arith) other) ∙ c.loop-i.invariant

pub returns : goal.returns
returns c = sym (any_none c.args.self.now.block.0 c.loop-i.i (omega arith)) ∙ c.loop-i.invariant
