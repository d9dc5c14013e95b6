use Rattle.std.proofs.Common.{◌≡◌, ◌∙◌, ◌-◌, suc, [], false, true, refl, sym, ap, arith, rules}
use Rattle.pd_kinds.specs.Node.{is_inner_node}
use Rattle.pd_meaning_era.specs.Notes.{words_at_each}
use Rattle.pd_meaning_era.proofs.LevelLemmas.{above_arrays, above_kids, above_none}
use Rattle.pd_meaning_era.proofs.descent.below.Goals as goal

pub returns-then-not-is_inner-clause-opened : goal.returns-then-not-is_inner-clause-opened
returns-then-not-is_inner-clause-opened c = λ image b at end walk is.
    let block = c.args.block.now.0 in
    let plain : is_inner_node block ≡ false = sym c.is_inner.ensures ∙ c.if-not-is_inner.true in (
      refl,
      above_arrays image c.args.level b block c.requires.node is plain ∙ ap (words_at_each image 0) (sym c.in_ok-arrays.ensures.arrays),
    )

pub returns-then-level-eq1-clause-opened : goal.returns-then-level-eq1-clause-opened
returns-then-level-eq1-clause-opened c = λ image b at end walk is.
    let block = c.args.block.now.0 in
    let inner : is_inner_node block ≡ true = sym c.is_inner.ensures ∙ c.if-not-is_inner.false in
    let none : c.new.result.items ≡ [] = search rules in
    (refl, above_none image c.args.level b block c.if-level-eq1.true is inner ∙ ap (words_at_each image 0) (sym none))

pub returns-clause-opened : goal.returns-clause-opened
returns-clause-opened c = λ image b at end walk is.
    let block = c.args.block.now.0 in
    let level = c.args.level in
    let inner : is_inner_node block ≡ true = sym c.is_inner.ensures ∙ c.if-not-is_inner.false in
    let some = c.requires.node in
    let other = c.if-level-eq1.false in
    let above : level ≡ suc (level - 1) = omega arith in
    (refl, above_kids image level (level - 1) b block above (omega arith) is inner ∙ ap (words_at_each image (level - 1)) (sym c.in_ok-children.ensures.children))
