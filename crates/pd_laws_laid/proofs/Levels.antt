-- What stands below the nodes of a tree, level by level.
use Rattle.std.proofs.Common.{◌≡◌, inl, inr, ℕ, zero, suc, ◌-◌, ◌<◌, ◌≤◌, true, false, List, [], ◌∷◌, map, refl, sym, ◌∙◌, ap, arith}
use Rattle.std.specs.List.{AllByRecursion, flat_map}
use Rattle.std.proofs.lemmas.Bool.{cases_eq}
use Rattle.std.proofs.lemmas.List.Folds.{flat_map-map}
use Rattle.pd_kinds.specs.Node.{Entry, is_ascending}
use Rattle.pd_kinds.specs.Graph.{Graph, block_at, pair, block_of, next, own_keys, is_inner_pair, children, has_chain, gathered, keys_below, is_in_range}
use Rattle.pd_kinds.specs.Layout.{leaf_entries}
use Rattle.pd_kinds.specs.Trees.{keys_of}
use Rattle.pd_kinds.proofs.KindsListLemmas.{any-map}
use Rattle.pd_kinds.proofs.ListLemmas.{all_from}
use Rattle.pd_laid.proofs.GatherLemmas.{same_each}
use Rattle.pd_laws_laid.proofs.ListLemmas.{any_none, map_flat}
use Rattle.pd_laws_laid.proofs.Ascending.{BeginsWith, in_range_by_heads}

-- an inner node of these entries stands in the place, as the graph sees it
pub record IsInnerAt (graph : Graph) (image : List (List ℕ)) (role place : ℕ) (entries : List Entry) : Type 0 where
  pub inner : is_inner_pair graph image (pair place role) ≡ true
  pub leads : next graph image (pair place role) ≡ map (λ (e : Entry). pair e.value role) entries
  pub keys_are : own_keys graph image (pair place role) ≡ keys_of entries

-- a leaf of these entries
pub record IsLeafAt (graph : Graph) (image : List (List ℕ)) (size role place : ℕ) (entries : List Entry) : Type 0 where
  pub leaf : is_inner_pair graph image (pair place role) ≡ false
  pub entries_are : leaf_entries size (block_at image (block_of (pair place role))) ≡ entries
  pub keys_are : own_keys graph image (pair place role) ≡ keys_of entries

-- what is below a block of the role within so many inner edges
abbrev pub below : Graph → List (List ℕ) → ℕ → ℕ → ℕ → ℕ → List Entry
below graph image size role h b =
    gathered (is_inner_pair graph image) (children graph image) (λ p. leaf_entries size (block_at image (block_of p))) h (pair b role)

-- all that is below the block is within h inner edges
pub record IsSettled (graph : Graph) (image : List (List ℕ)) (size role h b : ℕ) : Type 0 where
  pub shallow : (j : ℕ) → h < j → has_chain (children graph image) j (pair b role) ≡ false
  pub stable : (j : ℕ) → h ≤ j → below graph image size role j b ≡ below graph image size role h b
  pub own : (j : ℕ) → h ≤ j
      → gathered (is_inner_pair graph image) (children graph image) (own_keys graph image) j (pair b role) ≡ keys_of (below graph image size role h b)

-- so it is for each entry of a row; and the least key below each is the entry's
abbrev pub AreSettled : Graph → List (List ℕ) → ℕ → ℕ → ℕ → List Entry → Type 0
AreSettled graph image size role h row = AllByRecursion (λ (e : Entry). IsSettled graph image size role h e.value) row

abbrev pub AreLeast : Graph → List (List ℕ) → ℕ → ℕ → ℕ → List Entry → Type 0
AreLeast graph image size role h row = AllByRecursion (λ (e : Entry). BeginsWith e.key (keys_of (below graph image size role h e.value))) row

module _ (graph : Graph) (image : List (List ℕ)) where
  -- what stands below a leaf is its own
  pub leaf_gathered : {X : Type 0} → (own : ℕ → List X) (p j : ℕ) → is_inner_pair graph image p ≡ false
      → gathered (is_inner_pair graph image) (children graph image) own j p ≡ own p
  unfolding gathered
  leaf_gathered own p zero leaf = rw leaf refl
  leaf_gathered own p (suc j) leaf = rw leaf refl

  pub no_chain : (p j : ℕ) → is_inner_pair graph image p ≡ false → 0 < j → has_chain (children graph image) j p ≡ false
  unfolding has_chain children
  no_chain p zero leaf some = absurd (omega arith)
  no_chain p (suc j) leaf some = rw leaf refl

  module _ (role place : ℕ) (entries : List Entry) (at : IsInnerAt graph image role place entries) where
    children_are : children graph image (pair place role) ≡ map (λ (e : Entry). pair e.value role) entries
    unfolding children
    children_are = let inner = at.inner in rw inner at.leads

    -- below an inner node stands what is below its children
    pub inner_gathered : {X : Type 0} → (own : ℕ → List X) (j : ℕ)
        → gathered (is_inner_pair graph image) (children graph image) own (suc j) (pair place role)
        ≡ flat_map (λ (e : Entry). gathered (is_inner_pair graph image) (children graph image) own j (pair e.value role)) entries
    unfolding gathered
    inner_gathered own j =
        let inner = at.inner in
        rw (inner, children_are)
        (flat_map-map (gathered (is_inner_pair graph image) (children graph image) own j) (λ (e : Entry). pair e.value role) entries)

    inner_chain : (j : ℕ) → AllByRecursion (λ (e : Entry). has_chain (children graph image) j (pair e.value role) ≡ false) entries
        → has_chain (children graph image) (suc j) (pair place role) ≡ false
    unfolding has_chain
    inner_chain j none =
        rw children_are
        (any-map (has_chain (children graph image) j) (λ (e : Entry). pair e.value role) entries
        ∙ any_none (λ (e : Entry). has_chain (children graph image) j (pair e.value role)) entries none)

  -- a leaf is settled at once
  pub leaf_settled : (size role place : ℕ) (entries : List Entry) → IsLeafAt graph image size role place entries
      → IsSettled graph image size role 0 place × (below graph image size role 0 place ≡ entries)
  leaf_settled size role place entries at =
      let found = λ (j : ℕ). leaf_gathered (λ p. leaf_entries size (block_at image (block_of p))) (pair place role) j at.leaf in
      let here = found 0 ∙ at.entries_are in (
        record {
          shallow = λ j more. no_chain (pair place role) j at.leaf more;
          stable = λ j more. found j ∙ sym (found 0);
          own = λ j more. leaf_gathered (own_keys graph image) (pair place role) j at.leaf ∙ (at.keys_are ∙ ap keys_of (sym here));
        },
        here,
      )

  -- an inner node is settled one level above its children
  pub inner_settled : (size role h place : ℕ) (entries : List Entry) → IsInnerAt graph image role place entries
      → AreSettled graph image size role h entries
      → IsSettled graph image size role (suc h) place
      × (below graph image size role (suc h) place ≡ flat_map (λ (e : Entry). below graph image size role h e.value) entries)
  inner_settled size role h place entries at settled =
      let is_settled = λ (e : Entry). IsSettled graph image size role h e.value in
      let found = inner_gathered role place entries at (λ p. leaf_entries size (block_at image (block_of p))) in
      let rest = λ (j : ℕ) (more : h ≤ j). found j
      ∙ same_each (λ (e : Entry). below graph image size role j e.value) (λ (e : Entry). below graph image size role h e.value) entries
      (all_from is_settled (λ (e : Entry). below graph image size role j e.value ≡ below graph image size role h e.value)
      (λ e is. is.stable j more) entries settled) in (
        record {
          shallow = λ j more. elim (cases_eq j 0) [
            | inl none ↦ absurd (omega arith)
            | inr some ↦
                let e : j ≡ suc (j - 1) = omega arith in
                let higher : h < j - 1 = omega arith in
                rw e (inner_chain role place entries at (j - 1)
                (all_from is_settled (λ (e : Entry). has_chain (children graph image) (j - 1) (pair e.value role) ≡ false)
                (λ e is. is.shallow (j - 1) higher) entries settled))
          ];
          stable = λ j more.
              let e : j ≡ suc (j - 1) = omega arith in
              let higher : h ≤ j - 1 = omega arith in
              rw e (rest (j - 1) higher ∙ sym (rest h (omega arith)));
          own = λ j more.
              let e : j ≡ suc (j - 1) = omega arith in
              let higher : h ≤ j - 1 = omega arith in
              rw e (inner_gathered role place entries at (own_keys graph image) (j - 1)
              ∙ (same_each (λ (e : Entry). gathered (is_inner_pair graph image) (children graph image) (own_keys graph image) (j - 1) (pair e.value role))
              (λ (e : Entry). keys_of (below graph image size role h e.value)) entries
              (all_from is_settled
              (λ (e : Entry). gathered (is_inner_pair graph image) (children graph image) (own_keys graph image) (j - 1) (pair e.value role) ≡ keys_of (below graph image size role h e.value))
              (λ e is. is.own (j - 1) higher) entries settled)
              ∙ (sym (map_flat (λ (e : Entry). e.key) (λ (e : Entry). below graph image size role h e.value) entries)
              ∙ ap keys_of (sym (rest h (omega arith))))));
        },
        rest h (omega arith),
      )

  -- and in range where the keys below it ascend
  pub inner_in_range : (size role h place : ℕ) (entries : List Entry) → h ≤ 63 → IsInnerAt graph image role place entries
      → AreSettled graph image size role h entries → AreLeast graph image size role h entries
      → is_ascending (keys_of (flat_map (λ (e : Entry). below graph image size role h e.value) entries)) ≡ true
      → is_in_range graph image (pair place role) ≡ true
  unfolding is_in_range keys_below
  inner_in_range size role h place entries high at settled least asc =
      let down = children_are role place entries at in
      let own = at.keys_are in
      let found = λ (e : Entry). keys_of (below graph image size role h e.value) in
      let same : map (keys_below graph image) (map (λ (e : Entry). pair e.value role) entries) ≡ map found entries = keys_found entries settled in
      rw (down, own, same)
      (in_range_by_heads found entries least
      (rw (map_flat (λ (e : Entry). e.key) (λ (e : Entry). below graph image size role h e.value) entries) at asc))
    where
      keys_found : (entries : List Entry) → AreSettled graph image size role h entries
          → map (keys_below graph image) (map (λ (e : Entry). pair e.value role) entries) ≡ map (λ (e : Entry). keys_of (below graph image size role h e.value)) entries
      keys_found [] settled = refl
      keys_found (e ∷ entries) settled =
          ap (λ (ks : List ℕ). ks ∷ map (keys_below graph image) (map (λ (e : Entry). pair e.value role) entries)) (settled.0.own 63 high)
          ∙ ap (λ (rest : List (List ℕ)). keys_of (below graph image size role h e.value) ∷ rest) (keys_found entries settled.1)
