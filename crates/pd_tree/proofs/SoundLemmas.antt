-- The trees of reached pairs are sound where no reached pair breaks a rule, is deep or is out of range.
use Rattle.std.proofs.Common.{◌≡◌, ◌↔◌, ℕ, ◌*◌, Bool, true, false, cond, nat_eq, List, [], arith, zero, suc, ◌∷◌, refl}
use Rattle.std.specs.List.{list_any, flat_map, AllByRecursion}
use Rattle.pd_kinds.specs.Graph.{Graph, pair, block_of, role_of, is_inner_pair, next, is_reached, children, Edge, block_at, next as next_of, gathered}
use Rattle.pd_kinds.specs.Lawful.{IsLawful}
use Rattle.pd_kinds.specs.Paths.{IsOnPath}
use Rattle.pd_kinds.specs.Stages.{IsReached}
use Rattle.pd_kinds.specs.InOrder.{AreInOrder}
use Rattle.pd_kinds.specs.Node.{Entry, is_inner_node}
use Rattle.pd_kinds.specs.Layout.{leaf_entries}
use Rattle.pd_kinds.proofs.ListLemmas.{all_flat_map, all_mapped}
use Rattle.pd_tree.specs.Search.{IsUnder, IsSoundTree, node_kids, IsTreeTo}
use Rattle.pd_tree.specs.Search.IsUnder.{itself, below}
use Rattle.pd_tree.proofs.ReachLemmas.{IsMet, met_next, met, edges_reached}
use Rattle.pd_tree.proofs.TreeLemmas.{IsTreeAt, tree_at, leaf_edges_at, block_pair, IsClean, each_kid}

module _ (graph : Graph) (image : List (List ℕ)) (lawful : IsLawful graph) where
  -- a child is among the pairs that its node leads to
  child_next : (inner : Bool) (xs : List ℕ) (c : ℕ) → list_any (λ t. nat_eq t c) (cond inner xs []) ≡ true → list_any (λ t. nat_eq t c) xs ≡ true
  child_next true xs c any = any
  child_next false xs c any = absurd (cc)

  pub met_child : (p c : ℕ) → IsMet graph image lawful p → list_any (λ t. nat_eq t c) (children graph image p) ≡ true → IsMet graph image lawful c
  unfolding children
  met_child p c there any = met_next graph image lawful p c there (child_next (is_inner_pair graph image p) (next graph image p) c any)

  -- all pairs of a reached tree are met
  met_under : (p q : ℕ) → IsUnder graph image p q → IsMet graph image lawful p → IsMet graph image lawful q
  met_under p q (itself r) there = there
  met_under p q (below p' c q' is_child under) there = met_under c q' under (met_child p' c there is_child)

  module _ (paths : (q : ℕ) → (is_reached graph image q ≡ true) ↔ IsOnPath (16 * graph.nr) (next graph image) q) (ordered : AreInOrder graph image) where
    -- a pair is its block and its role
    whole : (q : ℕ) → pair (block_of q) (role_of q) ≡ q
    whole q = omega arith

    -- so they are reached
    found : (q : ℕ) → IsMet graph image lawful q → IsReached graph image (block_of q) (role_of q)
    found q there = record { block = there.block; within = omega arith; found = rw (whole q) ((paths q).1 there.path) }

    -- and sound
    sound_met : (p : ℕ) → IsMet graph image lawful p → IsSoundTree graph image p
    sound_met p there = record {
      rules = λ q under. ordered.well_formed (block_of q) (role_of q) (found q (met_under p q under there));
      level = rw (whole p) at (ordered.not_deep (block_of p) (role_of p) (found p there));
      range = λ q under. rw (whole q) at (ordered.in_range (block_of q) (role_of q) (found q (met_under p q under there)));
    }

    pub sound : (b role : ℕ) → IsReached graph image b role → IsSoundTree graph image (pair b role)
    sound b role reached = sound_met (pair b role) (met graph image lawful paths b role reached)

-- The blocks that the entries of a reached tree name are reached.

-- lists of one element each
pub singles : {X Y : Type 0} → (f : X → Y) (Q : Y → Type 0) (xs : List X) → AllByRecursion Q (flat_map (λ x. f x ∷ []) xs) → AllByRecursion (λ x. Q (f x)) xs
singles f Q [] all = tt
singles f Q (x ∷ xs) all = (all.0, singles f Q xs all.1)

module _ (graph : Graph) (image : List (List ℕ)) (role size next : ℕ) (named : ℕ → ℕ) (to : IsTreeTo graph role size next named)
    (lawful : IsLawful graph) (paths : (q : ℕ) → (is_reached graph image q ≡ true) ↔ IsOnPath (16 * graph.nr) (next_of graph image) q) where
  -- the entry names a reached block
  abbrev Leads : Entry → Type 0
  Leads e = IsReached graph image (named e.value) next

  -- the tree over the bytes of its nodes
  abbrev at : IsTreeAt graph image role size
  at = tree_at graph image role size to.is_role

  -- the entries of the leaves below a pair
  abbrev entries_to : ℕ → ℕ → List Entry
  entries_to j p = gathered (is_inner_pair graph image) (children graph image) (λ p. leaf_entries size (block_at image (block_of p))) j p

  -- those of a leaf lead on
  leaf_leads : (b : ℕ) → is_inner_node (block_at image b) ≡ false → IsClean graph image role size at b → IsMet graph image lawful (pair b role)
      → AllByRecursion Leads (leaf_entries size (block_at image b))
  unfolding leaf_entries
  leaf_leads b leaf clean met =
      let edges = edges_reached graph image lawful paths b role at.few met in
      rw leaf (singles (λ (e : Entry). record { role = next; block = named e.value }) (λ (e : Edge). IsReached graph image e.block e.role) _
      (rw (leaf_edges_at graph image role size next named b to leaf (clean (pair b role) (itself (pair b role)))) at edges))

  -- those below a node, if those below its children do
  leads_by : (inner : Bool) (j b : ℕ) → is_inner_node (block_at image b) ≡ inner → IsClean graph image role size at b → IsMet graph image lawful (pair b role)
      → ((c : ℕ) → IsClean graph image role size at c → IsMet graph image lawful (pair c role) → AllByRecursion Leads (entries_to j (pair c role)))
      → AllByRecursion Leads (entries_to (suc j) (pair b role))
  unfolding gathered
  leads_by true j b inner clean met each =
      let own = clean (pair b role) (itself (pair b role)) in
      rw (at.inner b own, inner, at.kids b own) (all_flat_map (entries_to j) Leads _ (all_mapped (λ c. pair c role) (λ q. AllByRecursion Leads (entries_to j q)) (node_kids size image b)
      (each_kid graph image role size at (λ c. AllByRecursion Leads (entries_to j (pair c role))) b clean (λ c is_child kid_clean. each c kid_clean (met_child graph image lawful (pair b role) (pair c role) met is_child)))))
  leads_by false j b leaf clean met each =
      rw (at.inner b (clean (pair b role) (itself (pair b role))), leaf, block_pair b role at.few) (leaf_leads b leaf clean met)

  -- those at the last level
  last_leads : (inner : Bool) (b : ℕ) → is_inner_node (block_at image b) ≡ inner → IsClean graph image role size at b → IsMet graph image lawful (pair b role)
      → AllByRecursion Leads (entries_to 0 (pair b role))
  unfolding gathered
  last_leads true b inner clean met = rw (at.inner b (clean (pair b role) (itself (pair b role))), inner) tt
  last_leads false b leaf clean met =
      rw (at.inner b (clean (pair b role) (itself (pair b role))), leaf, block_pair b role at.few) (leaf_leads b leaf clean met)

  -- those of a reached tree
  pub all_lead : (j b : ℕ) → IsClean graph image role size at b → IsMet graph image lawful (pair b role) → AllByRecursion Leads (entries_to j (pair b role))
  all_lead zero b clean met = last_leads (is_inner_node (block_at image b)) b refl clean met
  all_lead (suc j) b clean met = leads_by (is_inner_node (block_at image b)) j b refl clean met (all_lead j)
