-- Two images of a cache in which its format sees the same, such as one with some blocks of arrays sealed again: its trees have the same
-- entries.
use Rattle.std.proofs.Common.{◌≡◌, ◌⊎◌, inl, inr, ℕ, suc, ◌+◌, ◌<◌, Bool, List, [], ◌∷◌, length, map, refl, sym, subst, ap, ap₂, ◌∙◌, arith, length-append}
use Rattle.std.specs.List.{AllByRecursion, flat_map, range_with_len}
use Rattle.std.proofs.lemmas.Bool.{both_ways, cond_both}
use Rattle.std.proofs.lemmas.List.FromFn.{length-map-range_with_len}
use Rattle.pd_kinds.specs.declared.rule.Rule.{Rule}
use Rattle.pd_kinds.specs.Array.{word_at, word_count}
use Rattle.pd_kinds.specs.CacheFormat.{CacheFields, cache_fields, cache_graph, cache_layout, cache_super_bad}
use Rattle.pd_kinds.specs.Graph.{Edge, Graph, block_at, block_of, edges_of, is_inner_pair, next, pair, role_of, children, gathered}
use Rattle.pd_kinds.specs.Layout.{graph_of, leaf_entries}
use Rattle.pd_kinds.specs.Node.{Entry}
use Rattle.pd_kinds.specs.Stages.{IsReached}
use Rattle.pd_kinds.specs.Trees.{block_words, entries_below, words_of}
use Rattle.pd_kinds.specs.Whole.{are_full}
use Rattle.pd_kinds.proofs.ListLemmas.{all_from_two, all_mapped}
use Rattle.pd_kinds.specs.declared.rule.Rule.TheVariants as r
use Rattle.pd_laws_changed.proofs.Seen.{gathered_same, children_is, inner_is, IsSameIn}
use Rattle.pd_laws_changed.specs.Known.{IsKnown}
use Rattle.pd_laws_changed.proofs.Resealed.{BreaksChecksum, resealed_same, IsResealed, same_count}

-- the fields but the flags
abbrev pub unflagged : CacheFields → CacheFields
unflagged fields = record fields { flags = 0 }

-- the other image has as many blocks, the same fields and rules of a superblock, but for the flags, and the format sees the same in it
pub record AreSeen (image other : List (List ℕ)) : Type 0 where
  pub size : length other ≡ length image
  pub fields : unflagged (cache_fields (block_at other 0)) ≡ unflagged (cache_fields (block_at image 0))
  pub super_bad : (broken : Rule) → cache_super_bad (length image) (block_at other 0) broken ≡ cache_super_bad (length image) (block_at image 0) broken
  pub same : (role b : ℕ) → IsSameIn (cache_graph (block_at image 0)) role b (block_at image b) (block_at other b)

-- where all that is named is reached, a block that is reached in a role behind that of the superblock has as many words; and it is the
-- same, if it is none of an array
pub record AreKept (image other : List (List ℕ)) : Type 0 where
  pub known : IsKnown image
  pub counts : (size b role : ℕ) → IsReached (cache_graph (block_at image 0)) image b (suc role) → word_count size (block_at other b) ≡ word_count size (block_at image b)
  pub others : (b role : ℕ) → IsReached (cache_graph (block_at image 0)) image b (suc role)
      → BreaksChecksum (cache_fields (block_at image 0)).meta_map.blocks (suc role) (cache_layout (cache_fields (block_at image 0)).meta_map.blocks (suc role))
      → block_at other b ≡ block_at image b

module _ (image other : List (List ℕ)) where
  -- blocks with as many words
  abbrev pub HasAsMany : ℕ → Entry → Type 0
  HasAsMany size e = word_count size (block_at other e.value) ≡ word_count size (block_at image e.value)

  pub full_same : (size : ℕ) (entries : List Entry) → AllByRecursion (HasAsMany size) entries → are_full other size entries ≡ are_full image size entries
  unfolding are_full
  full_same size [] all = refl
  full_same size (e ∷ []) all = refl
  full_same size (e ∷ f ∷ entries) all = rw (all.0, full_same size (f ∷ entries) all.1) refl

  pub number_same : (size : ℕ) (entries : List Entry) → AllByRecursion (HasAsMany size) entries → length (words_of size other entries) ≡ length (words_of size image entries)
  unfolding words_of block_words
  number_same size [] all = refl
  number_same size (e ∷ entries) all =
      let words = λ (seen : List (List ℕ)) (f : Entry). map (word_at size (block_at seen f.value)) (range_with_len 0 (word_count size (block_at seen f.value))) in
      let count = length-map-range_with_len (word_at size (block_at other e.value)) 0 (word_count size (block_at other e.value))
      ∙ (all.0 ∙ sym (length-map-range_with_len (word_at size (block_at image e.value)) 0 (word_count size (block_at image e.value)))) in
      length-append (words other e) (flat_map (words other) entries)
      ∙ (ap₂ (λ (m n : ℕ). m + n) count (number_same size entries all.1) ∙ sym (length-append (words image e) (flat_map (words image) entries)))

  module _ (are : AreSeen image other) (kept : AreKept image other) where
    abbrev graph : Graph
    graph = cache_graph (block_at image 0)

    abbrev nr : ℕ
    nr = (cache_fields (block_at image 0)).meta_map.blocks

    -- a reached node of a tree
    record IsNode (role p : ℕ) : Type 0 where
      pub role_is : role_of p ≡ role
      pub reached : IsReached graph image (block_of p) role

    child_node : (role p : ℕ) (e : Edge) → role_of p ≡ role → IsReached graph image e.block e.role → e.role ≡ role_of p → IsNode role (pair e.block e.role)
    child_node role p e role_is reached same_role =
        let within = reached.within in
        let block : block_of (pair e.block e.role) ≡ e.block = omega arith in
        record { role_is = omega arith; reached = rw (block, ← role_is, ← same_role) reached }

    each_child : (role p : ℕ) → role < graph.roles → IsNode role p → AllByRecursion (IsNode role) (children graph image p)
    unfolding children next
    each_child role p few node =
        let known_role : role_of p < graph.roles = rw node.role_is few in
        let reached = subst (λ (x : ℕ). AllByRecursion (λ (e : Edge). IsReached graph image e.block e.role) (graph.edges x (block_of p) (block_at image (block_of p)))) (sym node.role_is) (kept.known.edges (block_of p) role node.reached) in
        cond_both (is_inner_pair graph image p) (next graph image p) [] (AllByRecursion (IsNode role))
        (λ inner.
        all_mapped (λ (e : Edge). pair e.block e.role) (IsNode role) (edges_of graph image p)
        (all_from_two (λ (e : Edge). IsReached graph image e.block e.role) (λ (e : Edge). e.role ≡ role_of p) (λ (e : Edge). IsNode role (pair e.block e.role))
        (λ e there same_role. child_node role p e node.role_is there same_role)
        (edges_of graph image p) reached ((kept.known.lawful.each (role_of p) (block_of p) (block_at image (block_of p)) known_role).inner_edges inner)))
        (λ _. tt)

    -- so the entries below it are the same
    pub entries_same : (size role b : ℕ) → suc role < graph.roles → IsReached graph image b (suc role) → BreaksChecksum nr (suc role) (cache_layout nr (suc role))
        → entries_below graph other size (suc role) b ≡ entries_below graph image size (suc role) b
    unfolding entries_below
    entries_same size role b few reached breaks =
        let within = reached.within in
        let own = λ (seen : List (List ℕ)) (p : ℕ). leaf_entries size (block_at seen (block_of p)) in
        let block : block_of (pair b (suc role)) ≡ b = omega arith in
        ap₂ (λ (inner : ℕ → Bool) (down : ℕ → List ℕ). gathered inner down (own other) 63 (pair b (suc role))) (inner_is graph image other are.same) (children_is graph image other are.same)
        ∙ gathered_same (IsNode (suc role)) (is_inner_pair graph image) (children graph image) (own other) (own image)
        (λ p node. ap (leaf_entries size) (kept.others (block_of p) role node.reached breaks)) (λ p. each_child (suc role) p few) 63 (pair b (suc role))
        (record { role_is = omega arith; reached = rw block reached })

-- the other image has as many blocks, the same superblock, and each other block as it was, or one of an array sealed again
pub record AreResealed (image other : List (List ℕ)) : Type 0 where
  pub size : length other ≡ length image
  pub super : block_at other 0 ≡ block_at image 0
  pub each : (b : ℕ) → (block_at other b ≡ block_at image b) ⊎ IsResealed (block_at image b) (block_at other b)

module _ (image other : List (List ℕ)) (are : AreResealed image other) where
  same : (role b : ℕ) → IsSameIn (cache_graph (block_at image 0)) role b (block_at image b) (block_at other b)
  same role b = elim (are.each b) [
    | inl equal ↦ rw equal (record { bad = λ _. refl; is_inner = refl; edges = refl; keys = refl; data_refs = refl })
    | inr resealed ↦ resealed_same (block_at image 0) role b (block_at image b) (block_at other b) resealed
  ]

  pub resealed_seen : AreSeen image other
  resealed_seen = record {
    size = are.size;
    fields = ap (λ (block : List ℕ). unflagged (cache_fields block)) are.super;
    super_bad = λ broken. ap (λ (block : List ℕ). cache_super_bad (length image) block broken) are.super;
    same = same;
  }

  module _ (known : IsKnown image) where
    counts : (size b : ℕ) → word_count size (block_at other b) ≡ word_count size (block_at image b)
    counts size b = elim (are.each b) [
      | inl equal ↦ ap (word_count size) equal
      | inr resealed ↦ same_count (block_at image b) (block_at other b) size resealed
    ]

    others : (b role : ℕ) → IsReached (cache_graph (block_at image 0)) image b role
        → BreaksChecksum (cache_fields (block_at image 0)).meta_map.blocks role (cache_layout (cache_fields (block_at image 0)).meta_map.blocks role)
        → block_at other b ≡ block_at image b
    unfolding cache_graph graph_of
    others b role reached breaks = elim (are.each b) [
      | inl equal ↦ equal
      | inr resealed ↦ absurd (both_ways _ (known.ordered.well_formed b role reached r.Checksum) (breaks.alone b (block_at image b) r.Checksum resealed.had))
    ]

    pub resealed_kept : AreKept image other
    resealed_kept = record { known = known; counts = λ size b role reached. counts size b; others = λ b role. others b (suc role) }
