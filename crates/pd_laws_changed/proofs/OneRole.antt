-- In a cache without a fault up to the stage Walk a block is reached in one role.
use Rattle.std.proofs.Common.{◌≡◌, inl, inr, ℕ, zero, suc, ◌+◌, ◌<◌, ◌≤◌, Bool, true, false, ◌&&◌, nat_lt, cond, List, [], ◌∷◌, length, filter, refl, sym, arith}
use Rattle.std.specs.List.{range_with_len}
use Rattle.std.proofs.lemmas.Bool.{both_ways, cases_Bool, cases_eq, cases_lt, lt-ltb, or_parts, true≢false}
use Rattle.pd_kinds.specs.declared.rule.Fault.{Fault}
use Rattle.pd_kinds.specs.declared.kind.Kind.TheVariants.{Cache}
use Rattle.pd_kinds.specs.CacheFormat.{cache_graph}
use Rattle.pd_kinds.specs.Graph.{Graph, block_at, is_reached, pair}
use Rattle.pd_kinds.specs.Stages.{IsReached, cache_checked, faults, first_failing, roles_of, stage_faults, walk_bad}
use Rattle.pd_kinds.proofs.CleanLemmas.{no_block_broken}
use Rattle.pd_kinds.specs.declared.kind.Stage.TheVariants as stages
use Rattle.pd_kinds.specs.declared.rule.Rule.TheVariants as r

-- one number that passes, or two, make a list of as many or more
one_passes : (test : ℕ → Bool) (a n i : ℕ) → a ≤ i → i < a + n → test i ≡ true → 0 < length (filter test (range_with_len a n))
one_passes test a zero i from below passes = absurd (omega arith)
one_passes test a (suc n) i from below passes = elim (cases_Bool (test a)) [
  | inl first ↦ rw first (omega arith)
  | inr fails ↦ rw fails (elim (cases_eq a i) [
    | inl same ↦ absurd (both_ways (test i) (rw same at fails) passes)
    | inr other ↦ one_passes test (a + 1) n i (omega arith) (omega arith) passes
  ])
]

two_pass : (test : ℕ → Bool) (a n i j : ℕ) → a ≤ i → i < j → j < a + n → test i ≡ true → test j ≡ true → 1 < length (filter test (range_with_len a n))
two_pass test a zero i j from less below passes also = absurd (omega arith)
two_pass test a (suc n) i j from less below passes also = elim (cases_Bool (test a)) [
  | inl first ↦ let rest = one_passes test (a + 1) n j (omega arith) (omega arith) also in rw first (omega arith)
  | inr fails ↦ rw fails (elim (cases_eq a i) [
    | inl same ↦ absurd (both_ways (test i) (rw same at fails) passes)
    | inr other ↦ two_pass test (a + 1) n i j (omega arith) less (omega arith) passes also
  ])
]

-- so two can't, where the test on the number of roles says so
not_two : (many : Bool) → (many && true) ≡ false → many ≡ true → ⊥
not_two true none is = true≢false none
not_two false none is = true≢false (sym is)

behind_first : (first rest : List Fault) → cond (nat_lt 0 (length first)) first rest ≡ [] → rest ≡ []
behind_first [] rest none = none
behind_first (fault ∷ first) rest none = absurd (let some : fault ∷ first ≡ [] = rw (lt-ltb 0 (suc (length first)) (omega arith)) at none in cc)

at_first : (first rest : List Fault) → cond (nat_lt 0 (length first)) first rest ≡ [] → first ≡ []
at_first [] rest none = refl
at_first (fault ∷ first) rest none = rw (lt-ltb 0 (suc (length first)) (omega arith)) at none

module _ (image : List (List ℕ)) (none : faults Cache stages.Whole image ≡ []) where
  abbrev graph : Graph
  graph = cache_graph (block_at image 0)

  no_walk_faults : stage_faults (cache_checked image) image stages.Walk ≡ []
  unfolding faults first_failing
  no_walk_faults =
      let found = stage_faults (cache_checked image) image in
      let later = first_failing (cache_checked image) image in
      at_first (found stages.Walk) (later (stages.Order ∷ stages.Whole ∷ []))
      (behind_first (found stages.Super) (later (stages.Walk ∷ stages.Order ∷ stages.Whole ∷ [])) none)

  many_roles : (b : ℕ) → b < graph.nr → nat_lt 1 (length (roles_of graph image b)) ≡ true → ⊥
  unfolding walk_bad cache_checked
  many_roles b below many = not_two _ (or_parts _ _ (no_block_broken graph.nr (walk_bad graph image) no_walk_faults b below r.Role)).1 many

  pub one_role : (b role other : ℕ) → IsReached graph image b role → IsReached graph image b other → role ≡ other
  unfolding roles_of
  one_role b role other at also =
      let first = at.within in
      let second = also.within in
      let is = λ (k : ℕ). is_reached graph image (pair b k) in
      elim (cases_lt role other) [
        | inl less ↦ absurd (many_roles b at.block (lt-ltb 1 _ (two_pass is 0 16 role other (omega arith) less (omega arith) at.found also.found)))
        | inr most ↦ elim (cases_lt other role) [
          | inl less ↦ absurd (many_roles b at.block (lt-ltb 1 _ (two_pass is 0 16 other role (omega arith) less (omega arith) also.found at.found)))
          | inr least ↦ omega arith
        ]
      ]
