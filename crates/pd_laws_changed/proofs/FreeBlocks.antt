-- A mapping of a sound pool comes from an entry of a reached leaf, so its data block is among the references that are counted.
use Rattle.std.proofs.Common.{◌≡◌, inl, inr, ℕ, zero, suc, ◌+◌, ◌*◌, ◌<◌, ◌≤◌, Bool, true, false, cond, nat_eq, List, [], ◌∷◌, map, filter, refl, sym, ◌∙◌, subst, le_refl, arith}
use Rattle.std.specs.List.{AllByRecursion, count_by, flat_map, list_any, range_with_len}
use Rattle.std.proofs.lemmas.Bool.{cases_Bool, cases_eq, eqb-true}
use Rattle.std.proofs.lemmas.List.Sums.{sum_by-cons}
use Rattle.pd_kinds.specs.Graph.{Graph, block_at, block_of, data_count, data_refs_of, is_reached, nodes, pair, role_of}
use Rattle.pd_kinds.specs.Layout.{Layout, Tree, graph_of, leaf_entries}
use Rattle.pd_kinds.specs.Layout.Layout.{tree}
use Rattle.pd_kinds.specs.Meaning.{Mapping, ThinDevice, thin_device, thin_meaning}
use Rattle.pd_kinds.specs.Node.{Entry}
use Rattle.pd_kinds.specs.Stages.{IsReached}
use Rattle.pd_kinds.specs.ThinFormat.{mapped_block, mapped_time, thin_graph, thin_layout, thin_fields}
use Rattle.pd_kinds.specs.Trees.{entries_below}
use Rattle.pd_kinds.specs.Whole.{details_entries, mapping_entries, top_entries}
use Rattle.pd_kinds.proofs.KindsListLemmas.{all_first, all_last}
use Rattle.pd_kinds.specs.InOrder.{AreInOrder}
use Rattle.pd_kinds.proofs.ListLemmas.{all_flat_map, all_from, all_mapped, all_of}
use Rattle.pd_grammar.specs.Need.{mapped_data}
use Rattle.pd_laid.proofs.NodeFacts.{all_parts, block_pair, not_bad, role_pair, under_all}
use Rattle.pd_laid.proofs.SalvageLemmas.{bottom_tree}
use Rattle.pd_answers.specs.Shrinks.{free_blocks}
use Rattle.pd_laws_laid.proofs.Formats.{all_filtered}
use Rattle.pd_laws_laid.proofs.ListLemmas.{any_none}
use Rattle.pd_laws_changed.specs.KnownPool.{AreBelow, AreFree, Ascend}

-- what is kept of a range is below its end, and ascends
kept_below : (test : ℕ → Bool) (a n end : ℕ) → a + n ≤ end → AreBelow end (filter test (range_with_len a n))
kept_below test a zero end most = tt
kept_below test a (suc n) end most = elim (cases_Bool (test a)) [
  | inl kept ↦ rw kept (omega arith, kept_below test (a + 1) n end (omega arith))
  | inr missed ↦ rw missed (kept_below test (a + 1) n end (omega arith))
]

pub kept_ascend : (test : ℕ → Bool) (least a n : ℕ) → least ≤ a → Ascend least (filter test (range_with_len a n))
kept_ascend test least a zero from = tt
kept_ascend test least a (suc n) from = elim (cases_Bool (test a)) [
  | inl kept ↦ rw kept (from, kept_ascend test (a + 1) (a + 1) n (le_refl (a + 1)))
  | inr missed ↦ rw missed (kept_ascend test least (a + 1) n (omega arith))
]

-- what is counted nowhere is nowhere
none_counted : (test : ℕ → Bool) (xs : List ℕ) → count_by test xs ≡ 0 → AllByRecursion (λ x. test x ≡ false) xs
none_counted test [] none = tt
none_counted test (x ∷ xs) none =
    let parts : cond (test x) 1 0 + count_by test xs ≡ 0 = sym (sum_by-cons (λ y. cond (test y) 1 0) x xs) ∙ none in
    elim (cases_Bool (test x)) [
      | inl passes ↦ let one : 1 + count_by test xs ≡ 0 = rw passes at parts in absurd (omega arith)
      | inr fails ↦
          let rest : 0 + count_by test xs ≡ 0 = rw fails at parts in
          let nothing : count_by test xs ≡ 0 = omega arith in
          (fails, none_counted test xs nothing)
    ]

-- what holds of all that the found numbers of a range have holds of what one of them has
at_found : (found : ℕ → Bool) (f : ℕ → List ℕ) (Q : ℕ → Type 0) (a n p : ℕ) → a ≤ p → p < a + n → found p ≡ true
    → AllByRecursion Q (flat_map f (filter found (range_with_len a n))) → AllByRecursion Q (f p)
at_found found f Q a zero p from below is all = absurd (omega arith)
at_found found f Q a (suc n) p from below is all = elim (cases_eq a p) [
  | inl same ↦ all_first Q (f p) (flat_map f (filter found (range_with_len (p + 1) n))) (rw (same, is) at all)
  | inr apart ↦ at_found found f Q (a + 1) n p (omega arith) (omega arith) is (elim (cases_Bool (found a)) [
    | inl kept ↦ all_last Q (f a) (flat_map f (filter found (range_with_len (a + 1) n))) (rw kept at all)
    | inr missed ↦ rw missed at all
  ])
]

-- the data blocks that a node of a tree names
tree_refs : (roles nr data_blocks : ℕ) (layout : ℕ → Layout) (image : List (List ℕ)) → AreInOrder (graph_of roles nr data_blocks layout) image
    → (t : Tree) (role : ℕ) → role < 16 → layout role ≡ tree t → (c : ℕ) → IsReached (graph_of roles nr data_blocks layout) image c role
    → (graph_of roles nr data_blocks layout).data_refs role c (block_at image c) ≡ flat_map t.leaf_data (leaf_entries t.size (block_at image c))
unfolding graph_of
tree_refs roles nr data_blocks layout image ordered t role few is c reached =
    rw (not_bad roles nr data_blocks layout image ordered t role few is c reached, is) refl

pub bottom_is : (nr data_blocks : ℕ) → thin_layout nr data_blocks 3 ≡ tree (bottom_tree data_blocks)
unfolding thin_layout
bottom_is nr data_blocks = refl

module _ (image : List (List ℕ)) (ordered : AreInOrder (thin_graph (block_at image 0)) image)
    (devices : AllByRecursion (λ (top : Entry). IsReached (thin_graph (block_at image 0)) image top.value 3)
    (top_entries (thin_graph (block_at image 0)) image (thin_fields (block_at image 0)).mapping_root)) where
  abbrev graph : Graph
  graph = thin_graph (block_at image 0)

  abbrev nr : ℕ
  nr = (thin_fields (block_at image 0)).meta_map.blocks

  abbrev data_blocks : ℕ
  data_blocks = (thin_fields (block_at image 0)).data_map.blocks

  -- a reached leaf of mappings names the data blocks of its entries
  mapped_refs : (c : ℕ) → IsReached graph image c 3 → graph.data_refs 3 c (block_at image c) ≡ flat_map (λ (e : Entry). mapped_block e.value ∷ []) (leaf_entries 8 (block_at image c))
  unfolding thin_graph
  mapped_refs c reached = tree_refs 11 nr data_blocks (thin_layout nr data_blocks) image ordered (bottom_tree data_blocks) 3 (omega arith) (bottom_is nr data_blocks) c reached

  -- a data block without a reference
  module _ (d : ℕ) (none : data_count graph image d ≡ 0) where
    abbrev IsOther : ℕ → Type 0
    IsOther b = nat_eq b d ≡ false

    -- is named by no reached node
    none_named : (c role : ℕ) → IsReached graph image c role → AllByRecursion IsOther (graph.data_refs role c (block_at image c))
    unfolding data_count nodes
    none_named c role reached =
        let inside = reached.block in
        let few = reached.within in
        let refs : AllByRecursion IsOther (graph.data_refs (role_of (pair c role)) (block_of (pair c role)) (block_at image (block_of (pair c role)))) =
        at_found (is_reached graph image) (data_refs_of graph image) IsOther 0 (16 * graph.nr) (pair c role) (omega arith) (omega arith) reached.found
        (none_counted (λ b. nat_eq b d) (flat_map (data_refs_of graph image) (filter (is_reached graph image) (range_with_len 0 (16 * graph.nr)))) none) in
        rw (role_pair c role few, block_pair c role few) at refs

    leaf_unnamed : (c : ℕ) → IsReached graph image c 3 → AllByRecursion (λ (e : Entry). IsOther (mapped_block e.value)) (leaf_entries 8 (block_at image c))
    leaf_unnamed c reached =
        let entries = leaf_entries 8 (block_at image c) in
        let names : Entry → List ℕ = λ (e : Entry). mapped_block e.value ∷ [] in
        all_from (λ (e : Entry). AllByRecursion IsOther (names e)) (λ (e : Entry). IsOther (mapped_block e.value)) (λ e one. one.0) entries
        (all_parts IsOther names entries (subst (AllByRecursion IsOther) (mapped_refs c reached) (none_named c 3 reached)))

    -- so by no mapping of a device
    pub entries_unnamed : (root : ℕ) → IsReached graph image root 3 → AllByRecursion (λ (e : Entry). IsOther (mapped_block e.value)) (mapping_entries graph image root)
    unfolding entries_below thin_graph
    entries_unnamed root reached =
        under_all 11 nr data_blocks (thin_layout nr data_blocks) image ordered (bottom_tree data_blocks) 3 (omega arith) (bottom_is nr data_blocks)
        (λ (e : Entry). IsOther (mapped_block e.value)) (λ p. leaf_entries 8 (block_at image (block_of p)))
        (λ c there leaf. rw (block_pair c 3 (omega arith)) (leaf_unnamed c there)) 63 root reached

    device_unnamed : (details : List Entry) (top : Entry) → IsReached graph image top.value 3
        → AllByRecursion IsOther (map (λ (x : Mapping). x.data_block) (thin_device graph image details top).mappings)
    unfolding thin_device
    device_unnamed details top reached =
        let mapping : Entry → Mapping = λ (e : Entry). record { virtual_block = e.key; data_block = mapped_block e.value; time = mapped_time e.value } in
        all_mapped (λ (x : Mapping). x.data_block) IsOther (map mapping (mapping_entries graph image top.value))
        (all_mapped mapping (λ (x : Mapping). IsOther x.data_block) (mapping_entries graph image top.value) (entries_unnamed top.value reached))

    unnamed : list_any (λ b. nat_eq b d) (mapped_data (thin_meaning image)) ≡ false
    unfolding thin_meaning
    unnamed =
        let fields = thin_fields (block_at image 0) in
        let details = details_entries graph image fields.details_root in
        let tops = top_entries graph image fields.mapping_root in
        let blocks : ThinDevice → List ℕ = λ (device : ThinDevice). map (λ (x : Mapping). x.data_block) device.mappings in
        any_none (λ b. nat_eq b d) (flat_map blocks (map (thin_device graph image details) tops))
        (all_flat_map blocks IsOther (map (thin_device graph image details) tops)
        (all_mapped (thin_device graph image details) (λ (device : ThinDevice). AllByRecursion IsOther (blocks device)) tops
        (all_from (λ (top : Entry). IsReached graph image top.value 3) (λ (top : Entry). AllByRecursion IsOther (blocks (thin_device graph image details top))) (device_unnamed details) tops devices)))

  pub free_are_free : (end : ℕ) → AreFree (thin_meaning image) end (free_blocks image end)
  unfolding free_blocks
  free_are_free end =
      let test : ℕ → Bool = λ d. nat_eq (data_count graph image d) 0 in
      record {
        unnamed =
            all_filtered (λ d. list_any (λ b. nat_eq b d) (mapped_data (thin_meaning image)) ≡ false) test (range_with_len 0 end)
            (all_of (λ d. test d ≡ true → list_any (λ b. nat_eq b d) (mapped_data (thin_meaning image)) ≡ false)
            (λ d passes. unnamed d (eqb-true (data_count graph image d) 0 passes)) (range_with_len 0 end));
        below = kept_below test 0 end end (omega arith);
        ascend = kept_ascend test 0 0 end (le_refl 0);
      }
