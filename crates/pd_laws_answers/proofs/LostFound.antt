-- What a search makes of a pool whose block 0 was lost.
use Rattle.std.proofs.Common.{◌≡◌, ℕ, false, List, Some, IfSome, sym, ap, subst, ◌∙◌}
use Rattle.std.proofs.lemmas.Bool.{both_ways}
use Rattle.std.proofs.lemmas.Option.{IfSome_then, same_Some}
use Rattle.pd_kinds.specs.Graph.{block_at}
use Rattle.pd_kinds.specs.Image.{IsImage}
use Rattle.pd_kinds.specs.Meaning.{ThinPool, thin_meaning}
use Rattle.pd_kinds.specs.ThinFormat.{thin_fields}
use Rattle.pd_laid.specs.FoundRoots.{FoundRoots, AreBest, found_pool, is_greater, lost_graph, roots_at}
use Rattle.pd_answers.specs.Terms.{Objects}
use Rattle.pd_laws_answers.specs.Search.{HasNoRoots, HoldsFoundPool, HoldsNoEarlier, HoldsOfRoots, IsLostPool, IsOfBest, IsPoolOf, KeepsRoots, state_of, state_of_roots}
use Rattle.pd_laws_answers.proofs.Restored.{Image, at_told}
use Rattle.pd_laws_answers.proofs.SeenLemmas.{seen_no_earlier}

-- the state of the best roots is that of their pool
best_state : (image : Image) (transaction block_size blocks : ℕ) (roots : FoundRoots) → AreBest (lost_graph image blocks) image roots
    → state_of_roots roots ≡ state_of (found_pool (lost_graph image blocks) image transaction block_size roots)
unfolding found_pool roots_at
best_state image transaction block_size blocks roots best = ap (λ (r : FoundRoots). state_of_roots r) best.numbers

module _ (image lost : Image) (transaction block_size : ℕ) (before after : Objects) (is : IsLostPool image lost before)
    (keeps : KeepsRoots image lost (thin_fields (block_at image 0))) where
  abbrev blocks : ℕ
  blocks = (thin_fields (block_at image 0)).data_map.blocks

  pub always_found : HasNoRoots blocks before after → ⊥
  always_found none =
      let all = at_told before.input.held lost _ is.read none.0 in
      both_ways _ (all (thin_fields (block_at image 0)).mapping_root (thin_fields (block_at image 0)).details_root) keeps.fitting

  no_earlier : (made : Image) → IsOfBest blocks (IsPoolOf transaction block_size blocks) lost made
      → is_greater (state_of (thin_meaning image)) (state_of (thin_meaning made)) ≡ false
  no_earlier made of =
      let late = keeps.found (Some of.roots) of.best in
      let same = same_Some of.roots late.roots late.some in
      let found = found_pool (lost_graph lost blocks) lost transaction block_size of.roots in
      let state : state_of_roots late.roots ≡ state_of found =
      sym (ap (λ (r : FoundRoots). state_of_roots r) same) ∙ best_state lost transaction block_size blocks of.roots of.best in
      let before = subst (λ (s : List ℕ). is_greater (state_of (thin_meaning image)) s ≡ false) state late.no_earlier in
      subst (λ (m : ThinPool). is_greater (state_of (thin_meaning image)) (state_of m) ≡ false) (sym of.pool.means) (seen_no_earlier (state_of (thin_meaning image)) found before)

  pub holds_no_earlier : HoldsFoundPool transaction block_size blocks before after → HoldsNoEarlier image before after
  holds_no_earlier holds =
      IfSome_then before.output.held
      (at_told before.input.held lost (λ (i : Image). IsImage i → IfSome before.output.held (λ (base : Image). IfSome after.output.held (λ (made : Image). HoldsOfRoots blocks (IsPoolOf transaction block_size blocks) i made before after))) is.read holds is.lost_is)
      (λ base told. IfSome_then after.output.held told (λ made here. no_earlier made here.found))
