use Rattle.std.proofs.Common.{inl, inr, ℕ, ◌≡◌, ◌+◌, ◌-◌, ◌≤◌, ◌++◌, List, length, sym, ap, ◌∙◌, subst, arith, append_assoc, length-append}
use Rattle.std.proofs.lemmas.Bool.{cases_lt}
use Rattle.pd_kinds.specs.Array.{word_count}
use Rattle.pd_kinds.proofs.KindLemmas.{counted_below}
use Rattle.pd_meaning_cache.specs.OriginSet.{AreAdded}
use Rattle.pd_cache.specs.Words.{word_origins}
use Rattle.pd_cache.proofs.WordLemmas.{few_origins, origins_all, origins_more, origins_to}
use Rattle.pd_cache.proofs.origins.add_words.Goals as goal

-- a block has at most 509 words
few_words : (block : List ℕ) → word_count 8 block ≤ 509
few_words block =
    let number = word_count 8 block in
    elim (cases_lt 0 number) [
      | inl some ↦ let last = counted_below 8 block (number - 1) (omega arith) in omega (arith, last.0, last.1)
      | inr none ↦ omega arith
    ]

pub add_word-number-requires : goal.add_word-number-requires
add_word-number-requires c = omega (arith, c.loop-i.invariant.few, c.loop-i.invariant.room, c.loop-i-test.true, c.array_len-i-end.ensures, few_words c.args.block.now.0, c.requires)

pub loop-i-preserved : goal.loop-i-preserved
loop-i-preserved c =
    let block = c.args.block.now.0 in
    let before = origins_to block c.loop-i.i in
    let more : origins_to block (c.loop-i.i + 1) ≡ before ++ word_origins c.array_word.result =
    origins_more block c.loop-i.i ∙ sym (ap (λ (w : ℕ). before ++ word_origins w) c.array_word.ensures.value) in
    record {
      number = omega (arith, c.loop-i.invariant.number, c.add_word-number.ensures.number, ap length more, length-append before (word_origins c.array_word.result));
      fewer = omega (arith, c.loop-i.invariant.fewer, c.add_word-number.ensures.number, few_origins c.array_word.result);
      added = λ os met.
          subst (λ (all : List ℕ). AreAdded all c.add_word-number.new.met)
          (append_assoc os before (word_origins c.array_word.result) ∙ ap (λ (ws : List ℕ). os ++ ws) (sym more))
          (c.add_word-number.ensures.added (os ++ before) (c.loop-i.invariant.added os met));
      few = omega (arith, c.loop-i.invariant.few, c.add_word-number.ensures.few);
      room = omega (arith, c.loop-i.invariant.room, c.add_word-number.ensures.room);
    }

pub returns-clause-number : goal.returns-clause-number
returns-clause-number c = c.loop-i.invariant.number ∙ ap length (origins_all c.args.block.now.0 c.loop-i.i (omega (arith, c.loop-i-test.false, c.loop-i.auto.i-end, c.array_len-i-end.ensures)))

pub returns-clause-added : goal.returns-clause-added
returns-clause-added c = λ os met. subst (λ (ws : List ℕ). AreAdded (os ++ ws) c.loop-i.met) (origins_all c.args.block.now.0 c.loop-i.i (omega (arith, c.loop-i-test.false, c.loop-i.auto.i-end, c.array_len-i-end.ensures))) (c.loop-i.invariant.added os met)

pub returns-clause-few : goal.returns-clause-few
returns-clause-few c = omega (arith, c.loop-i.invariant.few, c.loop-i.auto.i-end, c.array_len-i-end.ensures, few_words c.args.block.now.0)
