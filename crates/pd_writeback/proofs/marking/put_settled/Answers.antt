use Rattle.std.proofs.Common.{refl, arith, ◌∙◌, ap, map, List, ℕ, ◌+◌, ◌*◌}
use Rattle.std.proofs.lemmas.List.{take_all}
use Rattle.std.proofs.lemmas.List.FromFn.{length-map-range_with_len}
use Rattle.pd_kinds.specs.Array.{word_at, word_count}
use Rattle.pd_kinds.specs.Field.{put}
use Rattle.pd_kinds.specs.Node.{puts}
use Rattle.pd_kinds.proofs.KindLemmas.{few_words}
use Rattle.pd_answers.specs.Writebacks.{long_words, settled_word}
use Rattle.pd_writeback.proofs.UnchangedLemmas.{settled_more}
use Rattle.pd_writeback.proofs.marking.put_settled.Goals as goal

pub loop-i-init : goal.loop-i-init
unfolding puts
loop-i-init c = refl

pub set_array_word-requires-clause-within : goal.set_array_word-requires-clause-within
set_array_word-requires-clause-within c = let few = few_words 8 c.args.block.now.0 in let n = c.array_len-i-end.ensures in let below = c.loop-i-test.true in omega arith

pub loop-i-preserved : goal.loop-i-preserved
loop-i-preserved c =
    let v = c.args.version in
    let block = c.args.block.now.0 in
    let i = c.loop-i.i in
    let n = c.array_len-i-end.ensures in
    let below = c.loop-i-test.true in
    c.set_array_word.ensures
    ∙ (ap (λ (w : ℕ). put c.loop-i.made.0 (24 + 8 * i) 8 w) (c.settled_word.ensures ∙ ap (settled_word v) c.array_word-word.ensures.value)
    ∙ (ap (λ (m : List ℕ). put m (24 + 8 * i) 8 (settled_word v (word_at 8 block i))) c.loop-i.invariant
    ∙ settled_more v block c.args.made.now.0 i (omega arith)))

pub returns : goal.returns
returns c =
    let v = c.args.version in
    let block = c.args.block.now.0 in
    let n = c.array_len-i-end.ensures in
    let past = c.loop-i-test.false in
    let number = length-map-range_with_len (word_at 8 block) 0 (word_count 8 block) in
    c.loop-i.invariant ∙ ap (λ (words : List ℕ). puts c.args.made.now.0 24 8 (map (settled_word v) words)) (take_all c.loop-i.i (long_words block) (omega arith))
