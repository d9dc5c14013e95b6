-- What is known of the trees of a pool without faults: their entries, which ascend, and where they lead.
use Rattle.std.proofs.Common.{◌≡◌, ℕ, zero, suc, ◌-◌, ◌<◌, Bool, true, false, not, nat_lt, List, [], ◌∷◌, length, map, refl, sym, arith}
use Rattle.std.specs.List.{AllByRecursion, flat_map, range_with_len}
use Rattle.std.proofs.lemmas.Bool.{not-false, ltb-true}
use Rattle.std.proofs.lemmas.Simd.{map-map}
use Rattle.pd_kinds.specs.declared.kind.Kind.TheVariants.{Thin}
use Rattle.pd_kinds.specs.declared.rule.Rule.{Rule}
use Rattle.pd_kinds.specs.declared.superblocks.ThinSuper.{ThinSuper}
use Rattle.pd_kinds.specs.Node.{Entry, entry_count, is_inner_node, key_at, value_at}
use Rattle.pd_kinds.specs.Graph.{Graph, block_at, pair}
use Rattle.pd_kinds.specs.Layout.{Tree, graph_of, leaf_entries, node_entries_of, tree_bad, tree_tests}
use Rattle.pd_kinds.specs.Meaning.{Mapping, thin_meaning}
use Rattle.pd_kinds.specs.Stages.{IsReached, faults}
use Rattle.pd_kinds.specs.ThinFormat.{mapped_block, thin_graph, thin_layout, thin_fields}
use Rattle.pd_kinds.specs.Whole.{details_entries, mapping_entries, top_entries}
use Rattle.pd_kinds.proofs.ListLemmas.{all_append, all_flat_map, all_from, all_mapped, none_passes}
use Rattle.pd_kinds.proofs.SoundLemmas.{tests_after_one}
use Rattle.pd_kinds.specs.declared.kind.Stage.TheVariants as stages
use Rattle.pd_grammar.specs.ThinText.{joined_runs}
use Rattle.pd_value.specs.declared.thin.BlockTime.{BlockTime}
use Rattle.pd_tree.specs.Below.{gather, items_below, items_from, kids_from}
use Rattle.pd_tree.specs.Cursor.{item_of, root_of}
use Rattle.pd_tree.specs.Search.{HasThinRoots, IsCleanPair, IsSoundTree, HasThinTrees, IsTreeRole}
use Rattle.pd_tree.specs.Search.IsUnder.{itself}
use Rattle.pd_tree.proofs.OnceLemmas.{entries_are, searchable_is}
use Rattle.pd_tree.proofs.TreeLemmas.{IsTreeAt, block_pair, role_pair, tree_at, IsClean, each_kid}
use Rattle.pd_meaning_thin.specs.declared.devices.DeviceRow.{DeviceRow}
use Rattle.pd_meaning_thin.specs.Given.{BlocksFrom, GivesPool, IdsFrom, device_of, pool_rows}
use Rattle.pd_meaning_thin.specs.Runs.{block_time_of, details_of, mapping_of, spelled, mappings_below, runs_below}
use Rattle.pd_meaning_thin.proofs.RowLemmas.{KeysFrom, tree_ascends, HasMappings, blocks_ascend, ids_ascend, own_found, row_roots, same_devices}
use Rattle.pd_meaning_thin.proofs.LawfulLemmas.{spelled_given, same_keys, sizes}

-- what holds of the entries of each node that breaks no rule holds of all entries of a sound tree
module _ {X : Type 0} (P : ℕ × X → Type 0) (graph : Graph) (image : List (List ℕ)) (role size : ℕ) (at : IsTreeAt graph image role size) (decoded : ℕ → X)
    (each : (b : ℕ) → IsCleanPair graph image (pair b role) → AllByRecursion P (items_from size decoded (block_at image b) 0)) where
  abbrev here : ℕ → List (ℕ × X)
  here b = items_from size decoded (block_at image b) 0

  abbrev down : ℕ → List ℕ
  down b = kids_from size (block_at image b) 0

  all_gathered : (j b : ℕ) → IsClean graph image role size at b → AllByRecursion P (gather here down j b)
  unfolding gather
  all_gathered zero b clean = each b (clean (pair b role) (itself (pair b role)))
  all_gathered (suc j) b clean =
      all_append P (here b) (flat_map (gather here down j) (down b)) (each b (clean (pair b role) (itself (pair b role))))
      (all_flat_map (gather here down j) P (down b) (each_kid graph image role size at (λ c. AllByRecursion P (gather here down j c)) b clean (λ c is kid. all_gathered j c kid)))

  pub all_items : (j b : ℕ) → IsClean graph image role size at b → AllByRecursion P (items_below size decoded image j b)
  unfolding items_below
  all_items j b clean = all_gathered j b clean

-- the entries of a node that is a leaf, as a cursor gives them
pub leaf_items : (inner : Bool) (block : List ℕ) → is_inner_node block ≡ inner → items_from 8 block_time_of block 0 ≡ map (item_of block_time_of) (leaf_entries 8 block)
unfolding items_from leaf_entries node_entries_of
leaf_items true block inner = rw inner refl
leaf_items false block leaf =
    let whole : entry_count 8 block - 0 ≡ entry_count 8 block = omega arith in
    rw (leaf, whole) (sym (map-map (item_of block_time_of) (λ (i : ℕ). record { key = key_at block i; value = value_at 8 block i }) (range_with_len 0 (entry_count 8 block))))

-- the tree of a device's mappings
abbrev bottom : ℕ → Tree
bottom data_blocks = record {
  size = 8;
  leaf_edges = λ e. [];
  leaf_data = λ e. mapped_block e.value ∷ [];
  is_beyond = λ e. not (nat_lt (mapped_block e.value) data_blocks);
}

module _ (super : List ℕ) (image : List (List ℕ)) where
  abbrev data_blocks : ℕ
  data_blocks = (thin_fields super).data_map.blocks

  -- a node of mappings that breaks no rule, by its bytes
  clean_bytes : (c : ℕ) → IsCleanPair (thin_graph super) image (pair c 3) → (rule : Rule) → tree_bad (thin_fields super).meta_map.blocks 3 (bottom data_blocks) c (block_at image c) rule ≡ false
  unfolding thin_graph graph_of thin_layout
  clean_bytes c clean rule = rw (role_pair c 3 (omega arith), block_pair c 3 (omega arith)) at (clean rule)

  -- so each of its entries is in the pool
  entries_within : (c : ℕ) → IsCleanPair (thin_graph super) image (pair c 3)
      → AllByRecursion (λ (e : Entry). not (nat_lt (mapped_block e.value) data_blocks) ≡ false) (leaf_entries 8 (block_at image c))
  unfolding tree_bad tree_tests
  entries_within c clean =
      none_passes (λ (e : Entry). not (nat_lt (mapped_block e.value) data_blocks)) (leaf_entries 8 (block_at image c))
      (tests_after_one _ _ (tree_tests (thin_fields super).meta_map.blocks 3 (bottom data_blocks) c (block_at image c)) (clean_bytes c clean)).0

  -- a mapping to a data block of the pool
  abbrev pub IsMapped : ℕ × BlockTime → Type 0
  IsMapped item = item.1.block < data_blocks

  node_within : (c : ℕ) → IsCleanPair (thin_graph super) image (pair c 3) → AllByRecursion IsMapped (items_from 8 block_time_of (block_at image c) 0)
  node_within c clean =
      rw (leaf_items (is_inner_node (block_at image c)) (block_at image c) refl)
      (all_mapped (item_of block_time_of) IsMapped (leaf_entries 8 (block_at image c))
      (all_from (λ (e : Entry). not (nat_lt (mapped_block e.value) data_blocks) ≡ false) (λ (e : Entry). mapped_block e.value < data_blocks)
      (λ e holds. ltb-true (mapped_block e.value) data_blocks (not-false (nat_lt (mapped_block e.value) data_blocks) holds)) (leaf_entries 8 (block_at image c))
      (entries_within c clean)))

  -- so are all mappings of a sound tree
  pub mappings_within : (b : ℕ) → IsTreeRole (thin_graph super) 3 8 → IsSoundTree (thin_graph super) image (pair b 3)
      → AllByRecursion (λ (m : Mapping). m.data_block < data_blocks) (mappings_below image b)
  mappings_within b is sound =
      all_mapped mapping_of (λ (m : Mapping). m.data_block < data_blocks) (items_below 8 block_time_of image 63 b)
      (all_items IsMapped (thin_graph super) image 3 8 (tree_at (thin_graph super) image 3 8 is) block_time_of node_within 63 b sound.rules)

-- what is known of the trees of a pool without faults
module _ (image : List (List ℕ)) (none : faults Thin stages.Whole image ≡ [])
    (trees : HasThinTrees (thin_graph (block_at image 0))) (roots : HasThinRoots (thin_graph (block_at image 0)) image (thin_fields (block_at image 0)))
    (sound : (b role : ℕ) → IsReached (thin_graph (block_at image 0)) image b role → IsSoundTree (thin_graph (block_at image 0)) image (pair b role))
    (named : AllByRecursion (λ (e : Entry). IsReached (thin_graph (block_at image 0)) image e.value 3) (top_entries (thin_graph (block_at image 0)) image (thin_fields (block_at image 0)).mapping_root)) where
  abbrev fields : ThinSuper
  fields = thin_fields (block_at image 0)

  abbrev graph : Graph
  graph = thin_graph (block_at image 0)

  abbrev tops : List Entry
  tops = top_entries graph image fields.mapping_root

  abbrev details : List Entry
  details = details_entries graph image fields.details_root

  -- what the two cursors give
  tops_are : items_below 8 root_of image 63 fields.mapping_root ≡ map (item_of root_of) tops
  tops_are = entries_are graph image fields.mapping_root 2 8 trees.devices.is_role (sound fields.mapping_root 2 roots.devices) root_of

  details_are : items_below 24 details_of image 63 fields.details_root ≡ map (item_of details_of) details
  details_are = entries_are graph image fields.details_root 4 24 trees.details (sound fields.details_root 4 roots.details) details_of

  details_ascend : KeysFrom 0 (map (item_of details_of) details)
  details_ascend =
      rw details_are at (tree_ascends 24 details_of image fields.details_root (searchable_is graph image fields.details_root 4 24 trees.details (sound fields.details_root 4 roots.details) details_of))

  ids_are : IdsFrom 0 (pool_rows image)
  ids_are =
      ids_ascend 0 (items_below 8 root_of image 63 fields.mapping_root) (items_below 24 details_of image 63 fields.details_root)
      (tree_ascends 8 root_of image fields.mapping_root (searchable_is graph image fields.mapping_root 2 8 trees.devices.is_role (sound fields.mapping_root 2 roots.devices) root_of))

  -- the mappings of a device
  have_mappings : (top : Entry) → IsReached graph image top.value 3 → HasMappings graph image details top
  have_mappings top reached =
      rw (entries_are graph image top.value 3 8 trees.mappings (sound top.value 3 reached) block_time_of)
      (sym (map-map mapping_of (item_of block_time_of) (mapping_entries graph image top.value)))

  devices_are : (thin_meaning image).devices ≡ map (device_of image) (pool_rows image)
  unfolding thin_meaning
  devices_are =
      rw (tops_are, details_are)
      (same_devices graph image details tops details (same_keys image none roots.details.block) (own_found details_of 0 details details_ascend)
      (all_from (λ (e : Entry). IsReached graph image e.value 3) (HasMappings graph image details) have_mappings tops named))

  -- what holds of each reached root of mappings holds of each row
  each_row : (P : ℕ → Type 0) → ((b : ℕ) → IsReached graph image b 3 → P b) → AllByRecursion (λ (row : DeviceRow). P row.root) (pool_rows image)
  each_row P each =
      rw tops_are (row_roots P tops (items_below 24 details_of image 63 fields.details_root)
      (all_from (λ (e : Entry). IsReached graph image e.value 3) (λ (e : Entry). P e.value) (λ e reached. each e.value reached) tops named))

  blocks_are : AllByRecursion (λ (row : DeviceRow). BlocksFrom 0 (mappings_below image row.root)) (pool_rows image)
  blocks_are =
      each_row (λ b. BlocksFrom 0 (mappings_below image b))
      (λ b reached.
      blocks_ascend 0 (items_below 8 block_time_of image 63 b)
      (tree_ascends 8 block_time_of image b (searchable_is graph image b 3 8 trees.mappings (sound b 3 reached) block_time_of)))

  -- a reached block is in the image
  inside : (b role : ℕ) → IsReached graph image b role → b < length image
  unfolding thin_graph graph_of
  inside b role reached =
      let within = (sizes image none).within in
      let below : b < fields.meta_map.blocks = reached.block in
      omega arith

  roots_inside : AllByRecursion (λ (row : DeviceRow). row.root < length image) (pool_rows image)
  roots_inside = each_row (λ b. b < length image) (λ b reached. inside b 3 reached)

  rows_within : AllByRecursion (λ (row : DeviceRow). AllByRecursion (λ (m : Mapping). m.data_block < fields.data_map.blocks) (mappings_below image row.root)) (pool_rows image)
  rows_within =
      each_row (λ b. AllByRecursion (λ (m : Mapping). m.data_block < fields.data_map.blocks) (mappings_below image b))
      (λ b reached. mappings_within (block_at image 0) image b trees.mappings (sound b 3 reached))

  runs_are : AllByRecursion (λ (row : DeviceRow). map spelled (runs_below image row.root) ≡ joined_runs (mappings_below image row.root)) (pool_rows image)
  runs_are =
      all_from (λ (row : DeviceRow). AllByRecursion (λ (m : Mapping). m.data_block < fields.data_map.blocks) (mappings_below image row.root))
      (λ (row : DeviceRow). map spelled (runs_below image row.root) ≡ joined_runs (mappings_below image row.root))
      (λ row within. spelled_given fields.data_map.blocks (mappings_below image row.root) (sizes image none).few within)
      (pool_rows image) rows_within

  pub gives_pool : GivesPool image
  gives_pool = record {
    devices = devices_are;
    ids = ids_are;
    blocks = blocks_are;
    mapping_root = inside fields.mapping_root 2 roots.devices;
    details_root = inside fields.details_root 4 roots.details;
    roots = roots_inside;
    within = rows_within;
    runs = runs_are;
  }
