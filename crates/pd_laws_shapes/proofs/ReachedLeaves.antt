-- The leaves of mappings that are reached are those in the trees of the devices, in a pool that holds no copy.
use Rattle.std.proofs.Common.{◌≡◌, ◌↔◌, ◌⊎◌, inl, inr, ℕ, suc, ◌*◌, ◌<◌, ◌≤◌, true, false, nat_eq, List, [], ◌∷◌, map, refl, sym, subst, ◌∙◌, arith, eq-eqb}
use Rattle.std.specs.List.{AllByRecursion, list_any}
use Rattle.std.proofs.lemmas.Bool.{cases_Bool, cases_lt, or_left, cond_both}
use Rattle.pd_kinds.specs.Graph.{Edge, Graph, block_at, block_of, edges_of, is_inner_pair, is_reached, next, pair, role_of, children, is_deep}
use Rattle.pd_kinds.specs.Lawful.{IsLawful, IsWithin}
use Rattle.pd_kinds.specs.Layout.{graph_of, leaf_entries, node_entries_of}
use Rattle.pd_kinds.specs.Node.{Entry}
use Rattle.pd_kinds.specs.Paths.{IsOnPath, start, edge}
use Rattle.pd_kinds.specs.Stages.{IsReached}
use Rattle.pd_kinds.specs.ThinFormat.{thin_graph, thin_layout, ThinFields, thin_fields, thin_super_edges}
use Rattle.pd_kinds.specs.Trees.{entries_below}
use Rattle.pd_kinds.specs.Whole.{top_entries}
use Rattle.pd_kinds.proofs.KindsListLemmas.{any-map}
use Rattle.pd_kinds.specs.InOrder.{AreInOrder}
use Rattle.pd_kinds.proofs.ListLemmas.{all_flat_map, all_from, all_from_two, all_mapped}
use Rattle.pd_laid.proofs.NodeFacts.{block_pair, under_all}
use Rattle.pd_laid.proofs.SalvageLemmas.{bottom_tree}
use Rattle.pd_laid.specs.Shape.{all_leaf_blocks, device_roots, leaf_blocks}
use Rattle.pd_tree.specs.Search.{IsCleanPair, IsTreeTo}
use Rattle.pd_tree.proofs.ReachLemmas.{met}
use Rattle.pd_tree.proofs.TreeLemmas.{leaf_edges_at, tree_at}
use Rattle.pd_meaning_thin.proofs.OccursLemmas.{among_flat, holds_among}
use Rattle.pd_laws_laid.proofs.ListLemmas.{holds_of_found}
use Rattle.pd_laws_changed.proofs.EdgeRoles.{IsDown, further, is_gathered, short}
use Rattle.pd_laws_changed.proofs.EdgeRoles.IsDown.{at_once}
use Rattle.pd_laws_changed.proofs.DirtyPlaces.{any_named, next_of_child}
use Rattle.pd_laws_changed.proofs.FreeBlocks.{bottom_is}

module _ (image : List (List ℕ)) where
  abbrev graph : Graph
  graph = thin_graph (block_at image 0)

  abbrev fields : ThinFields
  fields = thin_fields (block_at image 0)

  -- where a pair is that a path leads to: it is the superblock, it is in the mapping tree or in the tree of a device, or it is of
  -- another part of the pool
  data IsPlaced (p : ℕ) : Type 0 where
    super_block : p ≡ 0 → IsPlaced p
    top : role_of p ≡ 2 → (j : ℕ) → IsDown (children graph image) j (pair fields.mapping_root 2) p → IsPlaced p
    bottom : role_of p ≡ 3 → (root j : ℕ) → list_any (λ t. nat_eq t root) (device_roots graph image) ≡ true
        → IsDown (children graph image) j (pair root 3) p → IsPlaced p
    other : 4 ≤ role_of p → IsPlaced p

  -- what the superblock names, where it holds no copy
  abbrev IsPlacedEdge : Edge → Type 0
  IsPlacedEdge e = IsPlaced (pair e.block e.role)

  named_by_super : fields.held_root ≡ 0 → AllByRecursion IsPlacedEdge (thin_super_edges fields)
  named_by_super none =
      let elsewhere : (block role : ℕ) → 4 ≤ role → role < 16 → IsPlaced (pair block role) = λ block role late few. other (omega arith) in
      rw (eq-eqb fields.held_root 0 none) (
        top (omega arith) 0 (at_once (pair fields.mapping_root 2)),
        (
          elsewhere fields.details_root 4 (omega arith) (omega arith),
          (
            elsewhere fields.data_map.bitmap_root 5 (omega arith) (omega arith),
            (
              elsewhere fields.data_map.overflow_root 7 (omega arith) (omega arith),
              (
                elsewhere fields.meta_map.bitmap_root 8 (omega arith) (omega arith),
                (
                  elsewhere fields.meta_map.overflow_root 10 (omega arith) (omega arith),
                  tt,
                ),
              ),
            ),
          ),
        ),
      )

  super_edges : fields.held_root ≡ 0 → AllByRecursion IsPlacedEdge (edges_of graph image 0)
  unfolding thin_graph graph_of thin_layout
  super_edges none = cond_both _ [] (thin_super_edges fields) (AllByRecursion IsPlacedEdge) (λ _. tt) (λ _. named_by_super none)

  module _ (lawful : IsLawful graph) (ordered : AreInOrder graph image)
      (paths : (q : ℕ) → (is_reached graph image q ≡ true) ↔ IsOnPath (16 * graph.nr) (next graph image) q)
      (to : IsTreeTo graph 2 8 3 (λ v. v)) (rooted : IsReached graph image fields.mapping_root 2)
      (devices : AllByRecursion (λ (e : Entry). IsReached graph image e.value 3) (top_entries graph image fields.mapping_root)) where
    -- an inner node leads to its own role, any other block to later ones
    abbrev IsAfter : ℕ → ℕ → Type 0
    IsAfter q p = ((is_inner_pair graph image q ≡ true) × (role_of p ≡ role_of q)) ⊎ ((is_inner_pair graph image q ≡ false) × (role_of q < role_of p))

    after : (q p : ℕ) → role_of q < graph.roles → list_any (λ t. nat_eq t p) (next graph image q) ≡ true → IsAfter q p
    unfolding next
    after q p known leads =
        let laws = lawful.each (role_of q) (block_of q) (block_at image (block_of q)) known in
        let few = lawful.few_roles in
        let edges = edges_of graph image q in
        let role : (e : Edge) → IsWithin graph e → role_of (pair e.block e.role) ≡ e.role = λ e within. let below = within.known in omega arith in
        holds_of_found (IsAfter q) (λ (e : Edge). pair e.block e.role) edges p
        (elim (cases_Bool (is_inner_pair graph image q)) [
          | inl inner ↦
              all_from_two (IsWithin graph) (λ (e : Edge). e.role ≡ role_of q) (λ (e : Edge). IsAfter q (pair e.block e.role))
              (λ e within same. inl (inner, role e within ∙ same)) edges laws.within (laws.inner_edges inner)
          | inr leaf ↦
              all_from_two (IsWithin graph) (λ (e : Edge). role_of q < e.role) (λ (e : Edge). IsAfter q (pair e.block e.role))
              (λ e within later. let is = role e within in inr (leaf, omega arith)) edges laws.within (laws.other_edges leaf)
        ]) leads

    -- a leaf of the mapping tree that leads to a block has an entry that names it
    entry_names : (q p : ℕ) → IsReached graph image (block_of q) (role_of q) → role_of q ≡ 2 → is_inner_pair graph image q ≡ false
        → list_any (λ t. nat_eq t p) (next graph image q) ≡ true → list_any (λ (e : Entry). nat_eq e.value (block_of p)) (leaf_entries 8 (block_at image (block_of q))) ≡ true
    unfolding next leaf_entries
    entry_names q p there role leaf leads =
        let whole : pair (block_of q) 2 ≡ q = omega arith in
        let clean = ordered.well_formed (block_of q) (role_of q) there in
        let clean_pair : IsCleanPair graph image (pair (block_of q) 2) = rw whole clean in
        let leaf_pair : is_inner_pair graph image (pair (block_of q) 2) ≡ false = rw whole leaf in
        let node = sym ((tree_at graph image 2 8 to.is_role).inner (block_of q) clean_pair) ∙ leaf_pair in
        let edges = leaf_edges_at graph image 2 8 3 (λ v. v) (block_of q) to node clean_pair in
        let leads_to = λ (es : List Edge). list_any (λ t. nat_eq t p) (map (λ (edge : Edge). pair edge.block edge.role) es) ≡ true in
        let by_tree = subst (λ (r : ℕ). leads_to (graph.edges r (block_of q) (block_at image (block_of q)))) role leads in
        rw node (any_named 3 p (omega arith) (node_entries_of 8 (block_at image (block_of q))) (subst leads_to edges by_tree))

    -- so that block is the root of a device
    root_named : (q p j : ℕ) → IsReached graph image (block_of q) (role_of q) → role_of q ≡ 2 → IsDown (children graph image) j (pair fields.mapping_root 2) q
        → is_inner_pair graph image q ≡ false → list_any (λ t. nat_eq t p) (next graph image q) ≡ true
        → list_any (λ t. nat_eq t (block_of p)) (device_roots graph image) ≡ true
    unfolding entries_below is_deep children
    root_named q p j there role down leaf leads =
        any-map (λ t. nat_eq t (block_of p)) (λ (e : Entry). e.value) (top_entries graph image fields.mapping_root)
        ∙ is_gathered (children graph image) (is_inner_pair graph image) (λ x. leaf_entries 8 (block_at image (block_of x))) (λ (e : Entry). nat_eq e.value (block_of p))
        (λ x c some. next_of_child (is_inner_pair graph image x) (next graph image x) c some)
        j 63 (pair fields.mapping_root 2) q down (short (children graph image) j 63 (pair fields.mapping_root 2) q down (ordered.not_deep fields.mapping_root 2 rooted)) leaf
        (entry_names q p there role leaf leads)

    -- what a placed pair leads to is placed
    placed_next : (q p : ℕ) → fields.held_root ≡ 0 → IsReached graph image (block_of q) (role_of q) → role_of q < graph.roles → IsPlaced q
        → list_any (λ t. nat_eq t p) (next graph image q) ≡ true → IsPlaced p
    unfolding next children
    placed_next q p none there known placed leads = elim placed [
      | super_block zero_is ↦
          holds_of_found IsPlaced (λ (e : Edge). pair e.block e.role) (edges_of graph image q) p
          (subst (λ (x : ℕ). AllByRecursion IsPlacedEdge (edges_of graph image x)) (sym zero_is) (super_edges none)) leads
      | top role j down ↦ elim (after q p known leads) [
        | inl inner ↦ top (inner.1 ∙ role) (suc j) (further (children graph image) j (pair fields.mapping_root 2) q p down (rw inner.0 leads))
        | inr leaf ↦ elim (cases_lt 3 (role_of p)) [
          | inl late ↦ other late
          | inr early ↦
              let above = leaf.1 in
              let three : role_of p ≡ 3 = omega arith in
              let whole : pair (block_of p) 3 ≡ p = omega arith in
              bottom three (block_of p) 0 (root_named q p j there role down leaf.0 leads) (rw whole (at_once p))
        ]
      ]
      | bottom role root j stands down ↦ elim (after q p known leads) [
        | inl inner ↦ bottom (inner.1 ∙ role) root (suc j) stands (further (children graph image) j (pair root 3) q p down (rw inner.0 leads))
        | inr leaf ↦ let above = leaf.1 in other (omega arith)
      ]
      | other late ↦ elim (after q p known leads) [
        | inl inner ↦ let same = inner.1 in other (omega arith)
        | inr leaf ↦ let above = leaf.1 in other (omega arith)
      ]
    ]

    placed : (p : ℕ) → fields.held_root ≡ 0 → IsOnPath (16 * graph.nr) (next graph image) p → IsPlaced p
    placed p none start = super_block refl
    placed p none (edge q p' within path leads) =
        let whole : pair (block_of q) (role_of q) ≡ q = omega arith in
        let there : IsReached graph image (block_of q) (role_of q) = record { block = omega arith; within = omega arith; found = rw whole ((paths q).1 path) } in
        let same : role_of (pair (block_of q) (role_of q)) ≡ role_of q = omega arith in
        let known = (met graph image lawful paths (block_of q) (role_of q) there).known in
        placed_next q p' none there (rw same at known) (placed q none path) leads

    -- the roots of the devices are reached
    roots_reached : AllByRecursion (λ root. IsReached graph image root 3) (device_roots graph image)
    roots_reached = all_mapped (λ (e : Entry). e.value) (λ root. IsReached graph image root 3) (top_entries graph image fields.mapping_root) devices

    -- so a leaf of mappings that is reached stands in the tree of a device
    pub reached_stands : (c : ℕ) → fields.held_root ≡ 0 → IsReached graph image c 3 → is_inner_pair graph image (pair c 3) ≡ false
        → list_any (λ t. nat_eq t c) (all_leaf_blocks graph image) ≡ true
    unfolding leaf_blocks is_deep children
    reached_stands c none reached leaf = elim (placed (pair c 3) none ((paths (pair c 3)).0 reached.found)) [
      | super_block zero_is ↦ absurd (omega arith)
      | top role j down ↦ absurd (omega arith)
      | other late ↦ absurd (omega arith)
      | bottom role root j stands down ↦
          let there = holds_among (λ b. IsReached graph image b 3) root (device_roots graph image) roots_reached stands in
          among_flat (leaf_blocks graph image) root c (device_roots graph image) stands
          (is_gathered (children graph image) (is_inner_pair graph image) (λ p. block_of p ∷ []) (λ t. nat_eq t c)
          (λ x d some. next_of_child (is_inner_pair graph image x) (next graph image x) d some)
          j 63 (pair root 3) (pair c 3) down (short (children graph image) j 63 (pair root 3) (pair c 3) down (ordered.not_deep root 3 there)) leaf
          (or_left (nat_eq (block_of (pair c 3)) c) _ (eq-eqb (block_of (pair c 3)) c (block_pair c 3 (omega arith)))))
    ]

    -- and those that stand there are reached
    pub stands_reached : AllByRecursion (λ c. IsReached graph image c 3) (all_leaf_blocks graph image)
    unfolding leaf_blocks thin_graph
    stands_reached =
        let nr = fields.meta_map.blocks in
        let data_blocks = fields.data_map.blocks in
        all_flat_map (leaf_blocks graph image) (λ c. IsReached graph image c 3) (device_roots graph image)
        (all_from (λ root. IsReached graph image root 3) (λ root. AllByRecursion (λ c. IsReached graph image c 3) (leaf_blocks graph image root))
        (λ root there.
        under_all 11 nr data_blocks (thin_layout nr data_blocks) image ordered (bottom_tree data_blocks) 3 (omega arith) (bottom_is nr data_blocks)
        (λ c. IsReached graph image c 3) (λ p. block_of p ∷ []) (λ c reached leaf. (rw (block_pair c 3 (omega arith)) reached, tt)) 63 root there)
        (device_roots graph image) roots_reached)
