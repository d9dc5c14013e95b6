-- What is known of an era target without faults: its words, its writesets and their keys, and where its roots are.
use Rattle.std.proofs.Common.{◌≡◌, ℕ, zero, suc, ◌-◌, ◌^◌, ◌<◌, ◌≤◌, Bool, true, false, cond, not, nat_eq, nat_lt, min, List, [], ◌∷◌, length, map, refl, ap₂, sym, arith, inl, inr}
use Rattle.std.specs.List.{AllByRecursion, flat_map, range_with_len}
use Rattle.std.proofs.lemmas.Bool.{cases_Bool, eqb-false, ltb-true, not-false}
use Rattle.std.proofs.lemmas.Simd.{map-map}
use Rattle.pd_kinds.specs.declared.kind.Kind.TheVariants.{Era}
use Rattle.pd_kinds.specs.declared.rule.Rule.{Rule}
use Rattle.pd_kinds.specs.EraFormat.{EraFields, era_fields, era_graph, era_layout, writeset_bits, writeset_root}
use Rattle.pd_kinds.specs.Graph.{Graph, block_at, pair}
use Rattle.pd_kinds.specs.Layout.{Tree, graph_of, leaf_entries, node_entries_of, tree_bad, tree_tests}
use Rattle.pd_kinds.specs.Meaning.{archived_era, current_era, era_meaning, era_of, is_held}
use Rattle.pd_kinds.specs.Node.{Entry, entry_count, is_inner_node, key_at, value_at}
use Rattle.pd_kinds.specs.Stages.{HasCleanSuper, IsReached, era_checked, faults}
use Rattle.pd_kinds.specs.Trees.{entries_below, words_of}
use Rattle.pd_kinds.proofs.ListLemmas.{all_append, all_flat_map, all_from, all_mapped, none_passes}
use Rattle.pd_kinds.proofs.CleanLemmas.{clean_super_where_none}
use Rattle.pd_kinds.proofs.EraTable.{super_sound}
use Rattle.pd_kinds.proofs.SoundLemmas.{tests_after_one}
use Rattle.pd_kinds.specs.declared.kind.Stage.TheVariants as stages
use Rattle.pd_value.specs.declared.era.Writeset.{Writeset}
use Rattle.pd_tree.specs.Below.{gather, items_below, items_from, kids_from}
use Rattle.pd_tree.specs.Cursor.{item_of}
use Rattle.pd_tree.specs.Search.{HasEraRoots, IsCleanPair, IsSoundTree, HasEraTrees, IsTreeRole}
use Rattle.pd_tree.specs.Search.IsUnder.{itself}
use Rattle.pd_tree.proofs.TreeLemmas.{IsTreeAt, block_pair, role_pair, tree_at, IsClean, each_kid}
use Rattle.pd_meaning_era.specs.Eras.{holds, GivesEras, RootsBelow, era_below, eras_below, is_current, set_era, set_of, sets_below, words_below}

-- what holds of the entries of each node that breaks no rule holds of all entries of a sound tree
module _ {X : Type 0} (P : ℕ × X → Type 0) (graph : Graph) (image : List (List ℕ)) (role size : ℕ) (at : IsTreeAt graph image role size) (decoded : ℕ → X)
    (each : (b : ℕ) → IsCleanPair graph image (pair b role) → AllByRecursion P (items_from size decoded (block_at image b) 0)) where
  abbrev here : ℕ → List (ℕ × X)
  here b = items_from size decoded (block_at image b) 0

  abbrev down : ℕ → List ℕ
  down b = kids_from size (block_at image b) 0

  all_gathered : (j b : ℕ) → IsClean graph image role size at b → AllByRecursion P (gather here down j b)
  unfolding gather
  all_gathered zero b clean = each b (clean (pair b role) (itself (pair b role)))
  all_gathered (suc j) b clean =
      all_append P (here b) (flat_map (gather here down j) (down b)) (each b (clean (pair b role) (itself (pair b role))))
      (all_flat_map (gather here down j) P (down b) (each_kid graph image role size at (λ c. AllByRecursion P (gather here down j c)) b clean (λ c is kid. all_gathered j c kid)))

  all_items : (j b : ℕ) → IsClean graph image role size at b → AllByRecursion P (items_below size decoded image j b)
  unfolding items_below
  all_items j b clean = all_gathered j b clean

-- the tree of the archived writesets
abbrev sets_tree : Tree
sets_tree = record {
  size = 12;
  leaf_edges = λ e. record { role = 3; block = writeset_root e.value } ∷ [];
  leaf_data = λ e. [];
  is_beyond = λ e. not (nat_lt e.key (2 ^ 32));
}

-- a key that is an era
abbrev HasEra : ℕ × Writeset → Type 0
HasEra item = item.0 < 2 ^ 32

module _ (first : List ℕ) (image : List (List ℕ)) where
  -- a node of archived writesets that breaks no rule, by its bytes
  clean_bytes : (c : ℕ) → IsCleanPair (era_graph first) image (pair c 2) → (rule : Rule) → tree_bad (era_fields first).meta_map.blocks 2 sets_tree c (block_at image c) rule ≡ false
  unfolding era_graph graph_of era_layout
  clean_bytes c clean rule = rw (role_pair c 2 (omega arith), block_pair c 2 (omega arith)) at (clean rule)

  -- so each of its keys is an era
  keys_fit : (c : ℕ) → IsCleanPair (era_graph first) image (pair c 2)
      → AllByRecursion (λ (e : Entry). not (nat_lt e.key (2 ^ 32)) ≡ false) (leaf_entries 12 (block_at image c))
  unfolding tree_bad tree_tests
  keys_fit c clean =
      none_passes (λ (e : Entry). not (nat_lt e.key (2 ^ 32))) (leaf_entries 12 (block_at image c))
      (tests_after_one _ _ (tree_tests (era_fields first).meta_map.blocks 2 sets_tree c (block_at image c)) (clean_bytes c clean)).0

  leaf_items : (inner : Bool) (block : List ℕ) → is_inner_node block ≡ inner → items_from 12 set_of block 0 ≡ map (item_of set_of) (leaf_entries 12 block)
  unfolding items_from leaf_entries node_entries_of
  leaf_items true block inner = rw inner refl
  leaf_items false block leaf =
      let whole : entry_count 12 block - 0 ≡ entry_count 12 block = omega arith in
      rw (leaf, whole) (sym (map-map (item_of set_of) (λ (i : ℕ). record { key = key_at block i; value = value_at 12 block i }) (range_with_len 0 (entry_count 12 block))))

  node_fits : (c : ℕ) → IsCleanPair (era_graph first) image (pair c 2) → AllByRecursion HasEra (items_from 12 set_of (block_at image c) 0)
  node_fits c clean =
      rw (leaf_items (is_inner_node (block_at image c)) (block_at image c) refl)
      (all_mapped (item_of set_of) HasEra (leaf_entries 12 (block_at image c))
      (all_from (λ (e : Entry). not (nat_lt e.key (2 ^ 32)) ≡ false) (λ (e : Entry). e.key < 2 ^ 32)
      (λ e holds. ltb-true e.key (2 ^ 32) (not-false (nat_lt e.key (2 ^ 32)) holds)) (leaf_entries 12 (block_at image c))
      (keys_fit c clean)))

  -- so are all keys of a sound tree
  keys_within : (b : ℕ) → IsTreeRole (era_graph first) 2 12 → IsSoundTree (era_graph first) image (pair b 2) → AllByRecursion HasEra (sets_below image b)
  keys_within b is sound = all_items HasEra (era_graph first) image 2 12 (tree_at (era_graph first) image 2 12 is) set_of node_fits 63 b sound.rules

-- the metadata blocks are in the image
within_if_clean : (image : List (List ℕ)) → HasCleanSuper (era_checked image) image → (era_fields (block_at image 0)).meta_map.blocks ≤ length image
unfolding era_checked
within_if_clean [] clean = absurd clean
within_if_clean (block ∷ blocks) clean = (super_sound (length (block ∷ blocks)) block clean).within

within : (image : List (List ℕ)) → faults Era stages.Whole image ≡ [] → (era_fields (block_at image 0)).meta_map.blocks ≤ length image
unfolding faults
within image none = within_if_clean image (clean_super_where_none (era_checked image) image (stages.Walk ∷ stages.Order ∷ stages.Whole ∷ []) none)

module _ (image : List (List ℕ)) (none : faults Era stages.Whole image ≡ []) (roots : HasEraRoots (era_graph (block_at image 0)) image (era_fields (block_at image 0)))
    (words_are : (b role size : ℕ) → IsReached (era_graph (block_at image 0)) image b role → IsTreeRole (era_graph (block_at image 0)) role 8
    → words_below size image b ≡ words_of size image (entries_below (era_graph (block_at image 0)) image 8 role b))
    (trees : HasEraTrees (era_graph (block_at image 0)))
    (sets_are : sets_below image (era_fields (block_at image 0)).writesets_root
    ≡ map (item_of set_of) (entries_below (era_graph (block_at image 0)) image 12 2 (era_fields (block_at image 0)).writesets_root))
    (sound : IsSoundTree (era_graph (block_at image 0)) image (pair (era_fields (block_at image 0)).writesets_root 2))
    (named : AllByRecursion (λ (e : Entry). IsReached (era_graph (block_at image 0)) image (writeset_root e.value) 3)
    (entries_below (era_graph (block_at image 0)) image 12 2 (era_fields (block_at image 0)).writesets_root)) where
  abbrev fields : EraFields
  fields = era_fields (block_at image 0)

  abbrev graph : Graph
  graph = era_graph (block_at image 0)

  abbrev sets : List Entry
  sets = entries_below graph image 12 2 fields.writesets_root

  -- a reached block is in the image
  inside : (b role : ℕ) → IsReached graph image b role → b < length image
  unfolding era_graph graph_of
  inside b role reached =
      let few = within image none in
      let below : b < fields.meta_map.blocks = reached.block in
      omega arith

  roots_inside : RootsBelow (length image) fields
  roots_inside = record {
    eras = inside fields.array_root 5 roots.eras;
    writesets = inside fields.writesets_root 2 roots.writesets;
    current = λ some. inside fields.current_root 3 (roots.current some);
  }

  -- a writeset whose root is reached holds the blocks that the definition says
  held_is : (bits root b : ℕ) → IsReached graph image root 3 → is_held graph image bits root b ≡ holds bits (words_below 8 image root) b
  unfolding is_held
  held_is bits root b reached = rw (words_are root 3 8 reached trees.bits.is_role) refl

  -- the eras that archived writesets give a block
  archived_are : (b : ℕ) (entries : List Entry) → AllByRecursion (λ (e : Entry). IsReached graph image (writeset_root e.value) 3) entries → AllByRecursion HasEra (map (item_of set_of) entries)
      → map (archived_era graph image b) entries ≡ map (set_era image b) (map (item_of set_of) entries)
  archived_are b [] reached eras = refl
  archived_are b (e ∷ entries) reached eras =
      let fits = eras.0 in
      let key : min e.key (2 ^ 32 - 1) ≡ e.key = omega arith in
      ap₂ (λ (x : ℕ) (xs : List ℕ). x ∷ xs)
      (ap₂ (λ (t : Bool) (k : ℕ). cond t k 0) (held_is (writeset_bits e.value) (writeset_root e.value) b reached.0) (sym key))
      (archived_are b entries reached.1 eras.1)

  -- the era that the current writeset gives
  current_is : (b : ℕ) → current_era graph image b ≡ cond (is_current image fields b) fields.era 0
  unfolding current_era
  current_is b = elim (cases_Bool (nat_eq fields.current_root 0)) [
    | inl there ↦ rw there refl
    | inr other ↦ rw (other, held_is fields.current_bits fields.current_root b (roots.current (eqb-false fields.current_root 0 other))) refl
  ]

  era_is : (b : ℕ) → era_of graph image b ≡ era_below image fields b
  unfolding era_of
  era_is b =
      let keys = keys_within (block_at image 0) image fields.writesets_root trees.writesets.is_role sound in
      let archived = archived_are b sets named (rw sets_are at keys) in
      rw (words_are fields.array_root 5 4 roots.eras trees.eras.is_role, sets_are, current_is b, archived) refl

  eras_from : (bs : List ℕ) → map (era_of graph image) bs ≡ map (era_below image fields) bs
  eras_from [] = refl
  eras_from (b ∷ bs) = ap₂ (λ (x : ℕ) (xs : List ℕ). x ∷ xs) (era_is b) (eras_from bs)

  eras_are : (era_meaning image).eras ≡ eras_below image fields
  unfolding era_meaning eras_below
  eras_are = eras_from (range_with_len 0 fields.blocks)

  pub gives_eras : GivesEras image
  gives_eras = record { eras = eras_are; roots = roots_inside }
