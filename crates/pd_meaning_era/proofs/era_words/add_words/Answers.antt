use Rattle.std.proofs.Common.{ℕ, List, [], ◌∷◌, ◌++◌, ap, ◌∙◌, arith}
use Rattle.pd_array.specs.declared.array.Word.TheVariants.{Four}
use Rattle.pd_tree.proofs.NextLemmas.{few_words}
use Rattle.pd_meaning_era.proofs.WordLemmas.{words_more}
use Rattle.pd_meaning_era.proofs.era_words.add_words.Goals as goal

pub loop-i-preserved : goal.loop-i-preserved
loop-i-preserved c =
    let word = c.array_word.result in
    ◌∙◌ {A = List ℕ} c.in_ok-push.ensures.items
    (◌∙◌ {A = List ℕ} (ap (λ (ws : List ℕ). ws ++ (word ∷ [])) c.loop-i.invariant) (words_more c.args.block.now.0 c.args.part.now.items c.args.from c.loop-i.i word c.array_word.ensures.value))

pub overflow_add-from : goal.overflow_add-from
overflow_add-from c = let few = few_words Four c.args.block.now.0 in omega arith
