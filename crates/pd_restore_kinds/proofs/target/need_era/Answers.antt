use Rattle.std.proofs.Common.{ℕ, ◌+◌, ◌/◌, ap, arith}
use Rattle.pd_grammar.specs.Need.{nodes_of_tree, need_array}
use Rattle.pd_grammar.specs.EraText.{need_of_era}
use Rattle.pd_restoring.proofs.ReadingLemmas.{tree_most}
use Rattle.pd_restore_kinds.proofs.target.need_era.Goals as goal

pub overflow_add-result : goal.overflow_add-result
overflow_add-result c =
    let words = (c.args.blocks + 1017) / 1018 in
    omega (arith, tree_most 252 words, ap (λ (most : ℕ). nodes_of_tree most words) c.max_entries_of.ensures)

pub overflow_add-result-2 : goal.overflow_add-result-2
overflow_add-result-2 c =
    let words = (c.args.blocks + 1017) / 1018 in
    omega (arith, tree_most 252 words, ap (λ (most : ℕ). nodes_of_tree most words) c.max_entries_of.ensures)

pub overflow_add-result-3 : goal.overflow_add-result-3
overflow_add-result-3 c =
    let words = (c.args.blocks + 1017) / 1018 in
    omega (
      arith,
      tree_most 252 words,
      tree_most 201 0,
      ap (λ (most : ℕ). nodes_of_tree most words) c.max_entries_of.ensures,
      ap (λ (most : ℕ). nodes_of_tree most 0) c.max_entries_of-2.ensures,
    )

pub overflow_add-result-5 : goal.overflow_add-result-5
overflow_add-result-5 c = omega (arith, tree_most 336 0, ap (λ (most : ℕ). nodes_of_tree most 0) c.max_entries_of-3.ensures)

pub overflow_add-result-6 : goal.overflow_add-result-6
overflow_add-result-6 c =
    let words = (c.args.blocks + 1017) / 1018 in
    omega (
      arith,
      tree_most 252 words,
      tree_most 201 0,
      tree_most 336 0,
      ap (λ (most : ℕ). nodes_of_tree most words) c.max_entries_of.ensures,
      ap (λ (most : ℕ). nodes_of_tree most 0) c.max_entries_of-2.ensures,
      ap (λ (most : ℕ). nodes_of_tree most 0) c.max_entries_of-3.ensures,
    )

pub returns-clause-need : goal.returns-clause-need
unfolding need_of_era need_array
returns-clause-need c =
    let words = (c.args.blocks + 1017) / 1018 in
    omega (
      arith,
      ap (λ (most : ℕ). nodes_of_tree most words) c.max_entries_of.ensures,
      ap (λ (most : ℕ). nodes_of_tree most 0) c.max_entries_of-2.ensures,
      ap (λ (most : ℕ). nodes_of_tree most 0) c.max_entries_of-3.ensures,
    )
