-- The runs that are listed of a pool are of blocks to which no mapping leads.
use Rattle.std.proofs.Common.{◌≡◌, inl, inr, ℕ, zero, suc, ◌+◌, ◌-◌, ◌<◌, ◌≤◌, Bool, true, List, [], ◌∷◌, ◌++◌, length, map, filter, refl, ap, subst, arith}
use Rattle.std.specs.List.{AllByRecursion, flat_map, prefix_len, range_with_len, take_while}
use Rattle.std.proofs.lemmas.Bool.{cases_Bool, cases_eq, eqb-true}
use Rattle.std.proofs.lemmas.List.Folds.{length-prefix_len}
use Rattle.pd_kinds.specs.Graph.{block_at, data_count}
use Rattle.pd_kinds.specs.ThinFormat.{thin_graph}
use Rattle.pd_kinds.proofs.ListLemmas.{all_mapped, all_of}
use Rattle.pd_answers.specs.QueryLines.{begins_unused, is_unused, unused_line, unused_lines}
use Rattle.pd_laws_changed.specs.Unused.{IsMappedByNone}
use Rattle.pd_laws_answers.specs.Unused.{IsRunUnmapped, Run, run_line}

-- of each number of a run it holds
run_holds : (holds : ℕ → Bool) (m first d : ℕ) → first ≤ d → d < first + prefix_len holds (range_with_len first m) → holds d ≡ true
run_holds holds zero first d from below = absurd (omega (arith, from, below))
run_holds holds (suc m) first d from below = elim (cases_Bool (holds first)) [
  | inl is ↦ elim (cases_eq first d) [
    | inl same ↦ subst (λ b. holds b ≡ true) same is
    | inr apart ↦ let rest = rw is at below in run_holds holds m (first + 1) d (omega (arith, from, apart)) (omega (arith, rest))
  ]
  | inr not ↦ let none = rw not at below in absurd (omega (arith, from, none))
]

module _ (image : List (List ℕ)) (unmapped : (d : ℕ) → data_count (thin_graph (block_at image 0)) image d ≡ 0 → IsMappedByNone image d) where
  abbrev run_from : ℕ → Run
  run_from b =
      let graph = thin_graph (block_at image 0) in
      record { first = b; number = length (take_while (is_unused graph image) (range_with_len b (graph.data_blocks - b))) }

  run_unmapped : (b : ℕ) → IsRunUnmapped image (run_from b)
  run_unmapped b d from below =
      let graph = thin_graph (block_at image 0) in
      let blocks = range_with_len b (graph.data_blocks - b) in
      let within : d < b + prefix_len (is_unused graph image) blocks = rw (length-prefix_len (is_unused graph image) blocks) at below in
      unmapped d (eqb-true (data_count graph image d) 0 (run_holds (is_unused graph image) (graph.data_blocks - b) b d from within))

  abbrev pub runs_of : List Run
  runs_of = let graph = thin_graph (block_at image 0) in map run_from (filter (begins_unused graph image) (range_with_len 0 graph.data_blocks))

  pub runs_unmapped : AllByRecursion (IsRunUnmapped image) runs_of
  runs_unmapped =
      let graph = thin_graph (block_at image 0) in
      let blocks = filter (begins_unused graph image) (range_with_len 0 graph.data_blocks) in
      all_mapped run_from (IsRunUnmapped image) blocks (all_of (λ b. IsRunUnmapped image (run_from b)) run_unmapped blocks)

  lines_are : (blocks : List ℕ) → flat_map (unused_line (thin_graph (block_at image 0)) image) blocks ≡ flat_map run_line (map run_from blocks)
  lines_are [] = refl
  lines_are (b ∷ blocks) = ap (λ (xs : List ℕ). unused_line (thin_graph (block_at image 0)) image b ++ xs) (lines_are blocks)

  pub text_is : unused_lines image ≡ flat_map run_line runs_of
  unfolding unused_lines
  text_is = let graph = thin_graph (block_at image 0) in lines_are (filter (begins_unused graph image) (range_with_len 0 graph.data_blocks))
