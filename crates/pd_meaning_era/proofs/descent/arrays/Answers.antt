use Rattle.std.proofs.Common.{◌∙◌, ℕ, List, [], ◌∷◌, ◌++◌, map, sym, ap, arith}
use Rattle.std.specs.List.{range_with_len}
use Rattle.std.proofs.lemmas.List.FromFn.{map-range_with_len_more}
use Rattle.pd_kinds.specs.Node.{value_at}
use Rattle.pd_value.specs.declared.thin.Root.{Root}
use Rattle.pd_meaning_era.proofs.LevelLemmas.{arrays_named}
use Rattle.pd_meaning_era.proofs.descent.arrays.Goals as goal

pub loop-i-preserved : goal.loop-i-preserved
loop-i-preserved c =
    let block = c.args.block.now.0 in
    c.in_ok-push.ensures.items
    ∙ (ap (λ (xs : List ℕ). xs ++ c.value-root.result.0 ∷ []) c.loop-i.invariant
    ∙ (ap (λ (root : Root). map (value_at 8 block) (range_with_len 0 c.loop-i.i) ++ root.0 ∷ []) c.value-root.ensures.value
    ∙ sym (map-range_with_len_more (value_at 8 block) 0 c.loop-i.i c.loop-i.i (omega arith))))

pub returns-clause-arrays : goal.returns-clause-arrays
returns-clause-arrays c =
    let block = c.args.block.now.0 in
    c.loop-i.invariant ∙ (ap (λ (n : ℕ). map (value_at 8 block) (range_with_len 0 n)) (omega (arith, c.loop-i-test.false, c.loop-i.auto.i-end)) ∙ sym (arrays_named block c.requires))
