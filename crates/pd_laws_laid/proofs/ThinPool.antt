-- The parts of a laid pool fit among one another.
use Rattle.std.proofs.Common.{◌≡◌, ℕ, ◌+◌, ◌%◌, ◌^◌, ◌<◌, ◌≤◌, true, false, nat_eq, List, [], ◌∷◌, ◌++◌, length, map, refl, sym, subst, ◌∙◌, ap, arith}
use Rattle.std.specs.List.{AllByRecursion, flat_map, range_with_len}
use Rattle.std.proofs.lemmas.List.{length-append, length-map}
use Rattle.std.proofs.lemmas.List.Sums.{count_by-le-length}
use Rattle.std.specs.Prelude.{All}
use Rattle.pd_kinds.specs.Graph.{Edge, edge_of, Graph}
use Rattle.pd_kinds.specs.Node.{Entry, is_ascending, max_entries}
use Rattle.pd_kinds.specs.Bitmap.{bitmaps_for}
use Rattle.pd_kinds.specs.Layout.{Tree, graph_of, plain_tree, tree_to}
use Rattle.pd_kinds.specs.Lawful.{IsLawful}
use Rattle.pd_kinds.specs.Meaning.{Mapping}
use Rattle.pd_kinds.specs.ThinFormat.{mappings_tree, thin_layout, thin_super_block, thin_super_edges}
use Rattle.pd_kinds.specs.Trees.{keys_of}
use Rattle.pd_kinds.proofs.KindsListLemmas.{holds_among}
use Rattle.pd_kinds.proofs.ListLemmas.{all_append, all_flat_map, all_from, all_map, all_mapped, all_of}
use Rattle.pd_kinds.proofs.ThinTable.{thin_table}
use Rattle.pd_grammar.specs.Lawful.{AreDevices, IsLawfulPool}
use Rattle.pd_laid.specs.Laid.{IsLaid, LaidBlock, data_named_by, laid_inner, laid_leaf, tree_of, laid_bitmap, meta_overflow_root}
use Rattle.pd_laid.specs.LaidThin.{bitmap_blocks, bitmaps_at, data_counts, data_index, data_index_root, data_overflow, data_overflow_root, details_at, details_blocks, details_items, details_root, device_blocks, device_inners, device_leaves, devices_at, index_at, index_blocks, laid_device, laid_devices, laid_shape, mapping_items, mapping_root, mappings, meta_map_at, meta_map_blocks, overflow_at, overflow_blocks, pool_fields, pool_named, pool_parts, shared_items, top_blocks, top_items, tops, tops_at}
use Rattle.pd_laid.specs.Shape.{IsShape, ShapeDevice, ThinShape, device_of, pool_of, uses_of}
use Rattle.pd_laid.proofs.PartSizes.{parts_number, bitmaps_size}
use Rattle.pd_laid.proofs.GatherLemmas.{length-items}
use Rattle.pd_laws_laid.specs.LaidOut.{AllFrom, IsFitting, IsInPlace, IsNamed, LeadsBelow, laid_super, role_at, AreItems, IsTreeSeen, IsMetaMapSeen}
use Rattle.pd_laws_laid.proofs.Formats.{few_data, few_named, named_lower}
use Rattle.pd_laws_laid.proofs.ListLemmas.{from_back, from_both, from_front}
use Rattle.pd_laws_laid.proofs.Names.{from_places, laid_in_place, role_of_places, root_leads}
use Rattle.pd_laws_laid.proofs.Rows.{by_keys}
use Rattle.pd_laws_laid.proofs.Trees.{SeenLeaf, leaf_roles, leaves_fit, leaves_seen, tree_seen}
use Rattle.pd_laws_laid.proofs.Bitmaps.{bitmap_at, bitmaps_fit}
use Rattle.pd_laws_laid.proofs.Index.{index_are, index_edges, overflow_are}
use Rattle.pd_laws_laid.proofs.MetaMap.{map_seen, unmapped}
use Rattle.pd_laws_laid.proofs.ThinDevices.{AreDevicesSeen, devices_seen, few_roles, known, leaves_are_items, tops_inside, wide}
use Rattle.pd_laws_laid.proofs.ThinRows.{DeviceFits, details_items_are, devices_ascend, devices_fit, layout_roles}

-- what a shape with a lawful meaning keeps
pub record ShapeFits (w : ThinShape) : Type 0 where
  pub uuid_len : length w.uuid ≡ 16
  pub uuid_bytes : All (λ b. b < 256) w.uuid
  pub time_fits : w.time < 2 ^ 32
  pub transaction_fits : w.transaction < 2 ^ 64
  pub block_size_fits : w.block_size < 2 ^ 32
  pub data_blocks_fit : w.data_blocks ≤ 2 ^ 40
  pub devices : AreDevices w.data_blocks 0 (map (device_of w.leaves) w.devices)

pub shape_fits : (w : ThinShape) → IsLawfulPool (pool_of w) → ShapeFits w
unfolding pool_of
shape_fits w lawful = record {
  uuid_len = lawful.uuid_len;
  uuid_bytes = lawful.uuid_bytes;
  time_fits = lawful.time_fits;
  transaction_fits = lawful.transaction_fits;
  block_size_fits = lawful.block_size_fits;
  data_blocks_fit = lawful.data_blocks_fit;
  devices = lawful.devices;
}

-- what the superblock names
abbrev pub super_edges : ThinShape → ℕ → List Edge
super_edges w n =
    edge_of 2 (mapping_root w)
    ∷ edge_of 4 (details_root w)
    ∷ edge_of 5 (data_index_root w)
    ∷ edge_of 7 (data_overflow_root w)
    ∷ edge_of 8 (meta_map_at w)
    ∷ edge_of 10 (meta_overflow_root n (meta_map_at w) (pool_named w))
    ∷ []

pub super_edges_are : (w : ThinShape) (n : ℕ) → thin_super_edges (pool_fields w n) ≡ super_edges w n
unfolding pool_fields
super_edges_are w n = refl

-- all that is laid, in its places
unfoldable pub pool_blocks : ThinShape → ℕ → List LaidBlock
pool_blocks w n = laid_super (thin_super_block (pool_fields w n)) (super_edges w n) ∷ (pool_parts w ++ meta_map_blocks w n)

-- the superblock first
pub super_first : (P : ℕ → LaidBlock → Type 0) (w : ThinShape) (n : ℕ) → AllFrom P 0 (pool_blocks w n)
    → P 0 (laid_super (thin_super_block (pool_fields w n)) (super_edges w n)) × AllFrom P 1 (pool_parts w ++ meta_map_blocks w n)
unfolding pool_blocks
super_first P w n all = all

pub pool_in_place : (w : ThinShape) (n : ℕ) (base image : List (List ℕ)) → IsLaid (laid_shape w n) base image
    → AllFrom (IsInPlace image (pool_blocks w n)) 0 (pool_blocks w n)
unfolding laid_shape pool_blocks
pool_in_place w n base image is = laid_in_place (laid_shape w n) (super_edges w n) base image is

-- what holds of each block of each part, in its place
pub record PartsHold (P : ℕ → LaidBlock → Type 0) (w : ThinShape) : Type 0 where
  pub devices : AllFrom P 1 (device_blocks w)
  pub tops : AllFrom P (tops_at w) (top_blocks w)
  pub details : AllFrom P (details_at w) (details_blocks w)
  pub bitmaps : AllFrom P (bitmaps_at w) (bitmap_blocks w)
  pub index : AllFrom P (index_at w) (index_blocks w)
  pub overflow : AllFrom P (overflow_at w) (overflow_blocks w)

parts_hold : (P : ℕ → LaidBlock → Type 0) (w : ThinShape) → AllFrom P 1 (pool_parts w) → PartsHold P w
unfolding pool_parts
parts_hold P w all =
    let last = index_blocks w ++ overflow_blocks w in
    let fourth = bitmap_blocks w ++ last in
    let third = details_blocks w ++ fourth in
    let second = top_blocks w ++ third in
    let behind_devices = from_back P 1 (device_blocks w) second all in
    let behind_tops = from_back P (tops_at w) (top_blocks w) third behind_devices in
    let behind_details = from_back P (details_at w) (details_blocks w) fourth behind_tops in
    let behind_bitmaps = from_back P (bitmaps_at w) (bitmap_blocks w) last behind_details in
    record {
      devices = from_front P 1 (device_blocks w) second all;
      tops = from_front P (tops_at w) (top_blocks w) third behind_devices;
      details = from_front P (details_at w) (details_blocks w) fourth behind_tops;
      bitmaps = from_front P (bitmaps_at w) (bitmap_blocks w) last behind_details;
      index = from_front P (index_at w) (index_blocks w) (overflow_blocks w) behind_bitmaps;
      overflow = from_back P (index_at w) (index_blocks w) (overflow_blocks w) behind_bitmaps;
    }

all_hold : (P : ℕ → LaidBlock → Type 0) (w : ThinShape) → PartsHold P w → AllFrom P 1 (pool_parts w)
unfolding pool_parts
all_hold P w parts =
    let last = index_blocks w ++ overflow_blocks w in
    let fourth = bitmap_blocks w ++ last in
    let third = details_blocks w ++ fourth in
    from_both P 1 (device_blocks w) (top_blocks w ++ third) parts.devices
    (from_both P (tops_at w) (top_blocks w) third parts.tops
    (from_both P (details_at w) (details_blocks w) fourth parts.details
    (from_both P (bitmaps_at w) (bitmap_blocks w) last parts.bitmaps
    (from_both P (index_at w) (index_blocks w) (overflow_blocks w) parts.index parts.overflow))))

-- the blocks of the devices have one role
device_roles : (t : Tree) (groups : List (List Entry)) (place : ℕ) (ds : List ShapeDevice) → AllByRecursion (λ (x : LaidBlock). x.role ≡ 3) (laid_devices t groups place ds)
unfolding laid_devices laid_device
device_roles t groups place [] = tt
device_roles t groups place (d ∷ ds) =
    all_append (λ (x : LaidBlock). x.role ≡ 3) (laid_device t groups place d) (laid_devices t groups (place + length (laid_device t groups place d)) ds)
    (all_append (λ (x : LaidBlock). x.role ≡ 3) (map (laid_leaf 3 t) (device_leaves d)) (map (laid_inner 3) (device_inners groups place d))
    (all_map (laid_leaf 3 t) (λ (x : LaidBlock). x.role ≡ 3) (λ g. refl) (device_leaves d))
    (all_map (laid_inner 3) (λ (x : LaidBlock). x.role ≡ 3) (λ g. refl) (device_inners groups place d)))
    (device_roles t groups (place + length (laid_device t groups place d)) ds)

pub top_keys : (t : Tree) (groups : List (List Entry)) (place : ℕ) (ds : List ShapeDevice) → keys_of (top_items t groups place ds) ≡ map (λ (d : ShapeDevice). d.id) ds
unfolding top_items
top_keys t groups place [] = refl
top_keys t groups place (d ∷ ds) = ap (λ (ks : List ℕ). d.id ∷ ks) (top_keys t groups (place + length (laid_device t groups place d)) ds)

module _ (w : ThinShape) (n : ℕ) (image : List (List ℕ)) (few : n ≤ 4161600) (fits : ShapeFits w) (shape : IsShape w)
    (room : meta_map_at w + length (meta_map_blocks w n) ≤ n) (stand : AllFrom (IsInPlace image (pool_blocks w n)) 0 (pool_blocks w n)) where
  abbrev pub this : Graph
  this = graph_of 11 n w.data_blocks (thin_layout n w.data_blocks)

  abbrev pub blocks : List LaidBlock
  blocks = pool_blocks w n

  abbrev Fitting : ℕ → LaidBlock → Type 0
  Fitting q x = IsFitting this image blocks (meta_map_at w) q x

  pub within : meta_map_at w ≤ n
  within = omega arith

  pub lawful_graph : IsLawful (graph_of 11 n w.data_blocks (thin_layout n w.data_blocks))
  lawful_graph = thin_table n w.data_blocks (omega arith) few

  pub super_stands : IsInPlace image (pool_blocks w n) 0 (laid_super (thin_super_block (pool_fields w n)) (super_edges w n))
  super_stands = (super_first (IsInPlace image blocks) w n stand).0

  rest_stands : AllFrom (IsInPlace image (pool_blocks w n)) 1 (pool_parts w ++ meta_map_blocks w n)
  rest_stands = (super_first (IsInPlace image blocks) w n stand).1

  pub standing : PartsHold (IsInPlace image (pool_blocks w n)) w
  standing = parts_hold (IsInPlace image blocks) w (from_front (IsInPlace image blocks) 1 (pool_parts w) (meta_map_blocks w n) rest_stands)

  pub meta_stands : AllFrom (IsInPlace image (pool_blocks w n)) (meta_map_at w) (meta_map_blocks w n)
  meta_stands =
      let e = parts_number w in
      rw e at (from_back (IsInPlace image blocks) 1 (pool_parts w) (meta_map_blocks w n) rest_stands)

  -- the devices' blocks, first what is needed of them above
  pub device_fits : AllByRecursion (DeviceFits w.data_blocks w.leaves) w.devices
  device_fits = devices_fit w.data_blocks 0 w.leaves w.devices fits.devices

  pub ids_ascend : is_ascending (map (λ (d : ShapeDevice). d.id) w.devices) ≡ true
  ids_ascend = devices_ascend w.data_blocks 0 w.leaves w.devices fits.devices

  abbrev t : Tree
  t = tree_of (mappings_tree w.data_blocks)

  abbrev groups : List (List Entry)
  groups = map mapping_items w.leaves

  abbrev of_devices : List LaidBlock
  of_devices = laid_devices t groups (devices_at w) w.devices

  abbrev of_leaves : List LaidBlock
  of_leaves = map (laid_leaf 3 t) groups

  devices_split : device_blocks w ≡ map (laid_leaf 3 (mappings w)) (shared_items w) ++ laid_devices (mappings w) (shared_items w) (devices_at w) w.devices
  unfolding device_blocks
  devices_split = refl

  leaf_count : length (map (laid_leaf 3 (mappings w)) (shared_items w)) ≡ length w.leaves
  leaf_count = length-map groups (laid_leaf 3 t) ∙ length-map w.leaves mapping_items

  devices_end : tops_at w ≡ devices_at w + length (laid_devices (mappings w) (shared_items w) (devices_at w) w.devices)
  devices_end = omega (arith, ap length devices_split, length-append of_leaves of_devices, leaf_count)

  mapping_role : (q : ℕ) → 1 ≤ q → q < tops_at w → role_at (pool_blocks w n) q ≡ 3
  mapping_role q low high =
      let e = devices_split in
      role_of_places image blocks 3 1 (device_blocks w)
      (rw e (all_append (λ (x : LaidBlock). x.role ≡ 3) of_leaves of_devices (all_map (laid_leaf 3 t) (λ (x : LaidBlock). x.role ≡ 3) (λ g. refl) groups)
      (device_roles t groups (devices_at w) w.devices))) standing.devices q low high

  pub filled : AllByRecursion (λ (ms : List Mapping). 1 ≤ length ms) w.leaves
  filled = shape.filled

  top_items_are : AreItems (pool_blocks w n) (meta_map_at w) (tree_of (tree_to 8 3 (λ v. v))) (tops w)
  top_items_are =
      let keys = top_keys t groups (devices_at w) w.devices in
      let inside = tops_inside n w.data_blocks image blocks (meta_map_at w) w.leaves few within fits.data_blocks_fit filled (devices_at w) w.devices (omega arith) shape.pieces in
      let is = λ (e : Entry). (1 ≤ e.value) × (e.value < devices_at w + length of_devices) in
      record {
        ascending = rw keys ids_ascend;
        keys_fit = by_keys (λ key. key < 2 ^ 64) (tops w) (rw keys (all_mapped (λ (d : ShapeDevice). d.id) (λ key. key < 2 ^ 64) w.devices
            (all_from (DeviceFits w.data_blocks w.leaves) (λ (d : ShapeDevice). d.id < 2 ^ 64) (λ d is. is.id_fits) w.devices device_fits)));
        values_fit = all_from is (λ (e : Entry). e.value < 256 ^ 8) (λ e inside. let high = inside.1 in omega (arith, devices_end)) (tops w) inside;
        in_range = all_of (λ (e : Entry). false ≡ false) (λ e. refl) (tops w);
        leads = all_from is (λ (e : Entry). AllByRecursion (LeadsBelow blocks (meta_map_at w)) (edge_of 3 e.value ∷ []))
            (λ e inside. (record { from_one = inside.0; below = omega (arith, devices_end, inside.1); role_is = mapping_role e.value inside.0 (omega (arith, devices_end, inside.1)) }, tt)) (tops w) inside;
      }

  pub tops_seen : IsTreeSeen (graph_of 11 n w.data_blocks (thin_layout n w.data_blocks)) image (pool_blocks w n) (meta_map_at w) 2 (tree_of (tree_to 8 3 (λ v. v))) (tops_at w) (tops w)
  unfolding top_blocks
  tops_seen =
      tree_seen 11 n w.data_blocks (thin_layout n w.data_blocks) image blocks (meta_map_at w) 2 (tree_of (tree_to 8 3 (λ v. v))) (layout_roles n w.data_blocks).top (omega arith) few_roles wide few within
      (tops_at w) (tops w) (omega arith) (omega arith) top_items_are standing.tops super_stands.names.0

  tops_named : AllByRecursion (λ (e : Entry). IsNamed (pool_blocks w n) e.value) (tops w)
  tops_named =
      all_from (λ (e : Entry). AllByRecursion (λ (edge : Edge). IsNamed blocks edge.block) (edge_of 3 e.value ∷ [])) (λ (e : Entry). IsNamed blocks e.value)
      (λ e named. named.0) (tops w) tops_seen.named

  -- the shared leaves, and the devices
  leaf_items : AllByRecursion (AreItems (pool_blocks w n) (meta_map_at w) (tree_of (mappings_tree w.data_blocks))) (map mapping_items w.leaves)
  leaf_items = leaves_are_items n w.data_blocks image blocks (meta_map_at w) w.leaves few within fits.data_blocks_fit filled w.devices device_fits shape.used

  leaf_most : AllByRecursion (λ (g : List Entry). length g ≤ max_entries 8) (map mapping_items w.leaves)
  leaf_most =
      all_mapped mapping_items (λ (g : List Entry). length g ≤ max_entries 8) w.leaves
      (all_from (λ (ms : List Mapping). length ms ≤ 252) (λ (ms : List Mapping). length (mapping_items ms) ≤ max_entries 8) (λ ms most. omega (arith, length-items ms)) w.leaves shape.few)

  pub leaves_stand : AllFrom (IsInPlace image (pool_blocks w n)) 1 (map (laid_leaf 3 (mappings w)) (shared_items w))
  leaves_stand =
      from_front (IsInPlace image blocks) 1 of_leaves of_devices
      (subst (λ (xs : List LaidBlock). AllFrom (IsInPlace image blocks) 1 xs) devices_split standing.devices)

  devices_stand : AllFrom (IsInPlace image (pool_blocks w n)) (devices_at w) (laid_devices (mappings w) (shared_items w) (devices_at w) w.devices)
  devices_stand =
      let count = leaf_count in
      rw count at (from_back (IsInPlace image blocks) 1 of_leaves of_devices
      (subst (λ (xs : List LaidBlock). AllFrom (IsInPlace image blocks) 1 xs) devices_split standing.devices))

  pub shared_seen : AllFrom (λ q g. SeenLeaf 11 n w.data_blocks (thin_layout n w.data_blocks) image (pool_blocks w n) (meta_map_at w) 3 (tree_of (mappings_tree w.data_blocks)) (layout_roles n w.data_blocks).mappings known few_roles wide few within q g) 1 (map mapping_items w.leaves)
  shared_seen =
      leaves_seen 11 n w.data_blocks (thin_layout n w.data_blocks) image blocks (meta_map_at w) 3 t (layout_roles n w.data_blocks).mappings known few_roles wide few within
      1 groups (omega (arith, length-map w.leaves mapping_items, devices_end)) leaf_most leaf_items leaves_stand

  pub devices_all_seen : AreDevicesSeen n w.data_blocks image (pool_blocks w n) (meta_map_at w) w.leaves few within fits.data_blocks_fit filled shared_seen
      (leaf_roles 11 n w.data_blocks (thin_layout n w.data_blocks) image (pool_blocks w n) (meta_map_at w) 3 (tree_of (mappings_tree w.data_blocks)) (layout_roles n w.data_blocks).mappings known few_roles wide few within 1 (map mapping_items w.leaves) leaves_stand)
      (devices_at w) w.devices
  devices_all_seen =
      devices_seen n w.data_blocks image blocks (meta_map_at w) w.leaves few within fits.data_blocks_fit filled shared_seen
      (leaf_roles 11 n w.data_blocks (thin_layout n w.data_blocks) image blocks (meta_map_at w) 3 t (layout_roles n w.data_blocks).mappings known few_roles wide few within 1 groups leaves_stand)
      (devices_at w) w.devices (omega arith) (omega (arith, devices_end)) device_fits shape.pieces devices_stand tops_named

  shared_named : AllFrom (λ q (g : List Entry). IsNamed (pool_blocks w n) q) 1 (map mapping_items w.leaves)
  shared_named =
      from_places (IsNamed blocks) 1 groups
      (λ i inside. holds_among (λ k. IsNamed blocks (1 + k)) (flat_map uses_of w.devices) i devices_all_seen.uses_named (shape.used i (omega (arith, length-map w.leaves mapping_items))))

  devices_fitting : AllFrom (IsFitting (graph_of 11 n w.data_blocks (thin_layout n w.data_blocks)) image (pool_blocks w n) (meta_map_at w)) 1 (device_blocks w)
  devices_fitting =
      let count = leaf_count in
      subst (λ (xs : List LaidBlock). AllFrom Fitting 1 xs) (sym devices_split)
      (from_both Fitting 1 of_leaves of_devices
      (leaves_fit 11 n w.data_blocks (thin_layout n w.data_blocks) image blocks (meta_map_at w) 3 t (layout_roles n w.data_blocks).mappings known few_roles wide few within 1 groups shared_seen leaf_items shared_named)
      (rw count devices_all_seen.fitting))

  -- the details
  pub details_seen : IsTreeSeen (graph_of 11 n w.data_blocks (thin_layout n w.data_blocks)) image (pool_blocks w n) (meta_map_at w) 4 (tree_of (plain_tree 24)) (details_at w) (details_items w.devices)
  unfolding details_blocks
  details_seen =
      tree_seen 11 n w.data_blocks (thin_layout n w.data_blocks) image blocks (meta_map_at w) 4 (tree_of (plain_tree 24)) (layout_roles n w.data_blocks).details (omega arith) few_roles (omega arith) few within
      (details_at w) (details_items w.devices) (omega arith) (omega arith) (details_items_are blocks (meta_map_at w) w.data_blocks w.leaves w.devices device_fits ids_ascend)
      standing.details super_stands.names.1.0

  -- the data map
  pub few_counts : (d : ℕ) → data_counts w d < 2 ^ 32
  unfolding data_counts
  few_counts d =
      let number = few_data this image blocks (meta_map_at w) lawful_graph 1 (device_blocks w) devices_fitting in
      omega (arith, count_by-le-length (λ r. nat_eq r d) (data_named_by (device_blocks w)), number)

  pub data_bitmap_stands : (i : ℕ) → i < bitmaps_for w.data_blocks → IsInPlace image (pool_blocks w n) (bitmaps_at w + i) (laid_bitmap 6 (data_counts w) i)
  unfolding bitmap_blocks
  data_bitmap_stands i inside = bitmap_at (IsInPlace image blocks) 6 (data_counts w) (bitmaps_at w) w.data_blocks i inside standing.bitmaps

  pub data_index_seen : IsTreeSeen (graph_of 11 n w.data_blocks (thin_layout n w.data_blocks)) image (pool_blocks w n) (meta_map_at w) 5 (tree_of (tree_to 16 6 (λ v. v % 2 ^ 64))) (index_at w) (data_index w)
  unfolding index_blocks
  data_index_seen =
      let data_few = fits.data_blocks_fit in
      tree_seen 11 n w.data_blocks (thin_layout n w.data_blocks) image blocks (meta_map_at w) 5 (tree_of (tree_to 16 6 (λ v. v % 2 ^ 64))) (layout_roles n w.data_blocks).data_index (omega arith) few_roles (omega arith) few within
      (index_at w) (data_index w) (omega arith) (omega arith)
      (index_are blocks (meta_map_at w) 6 (data_counts w) w.data_blocks (bitmaps_at w) (omega arith) (omega arith) (omega arith) (omega (arith, bitmaps_size w)) (λ i inside. (data_bitmap_stands i inside).role_is))
      standing.index super_stands.names.1.1.0

  bitmaps_named : AllByRecursion (IsNamed (pool_blocks w n)) (range_with_len (bitmaps_at w) (bitmaps_for w.data_blocks))
  bitmaps_named =
      let edges = index_edges 6 (data_counts w) w.data_blocks (bitmaps_at w) (omega (arith, bitmaps_size w)) in
      unmapped (edge_of 6) (λ (edge : Edge). IsNamed blocks edge.block) (range_with_len (bitmaps_at w) (bitmaps_for w.data_blocks))
      (rw edges at (all_flat_map (λ (e : Entry). edge_of 6 (e.value % 2 ^ 64) ∷ []) (λ (edge : Edge). IsNamed blocks edge.block) (data_index w) data_index_seen.named))

  bitmaps_fitting : AllFrom (IsFitting (graph_of 11 n w.data_blocks (thin_layout n w.data_blocks)) image (pool_blocks w n) (meta_map_at w)) (bitmaps_at w) (bitmap_blocks w)
  unfolding bitmap_blocks
  bitmaps_fitting =
      bitmaps_fit 11 n w.data_blocks (thin_layout n w.data_blocks) image blocks (meta_map_at w) 6 (data_counts w) (layout_roles n w.data_blocks).data_bitmap (omega arith) few_roles few
      (bitmaps_at w) w.data_blocks (omega (arith, bitmaps_size w)) standing.bitmaps bitmaps_named

  pub data_overflow_seen : IsTreeSeen (graph_of 11 n w.data_blocks (thin_layout n w.data_blocks)) image (pool_blocks w n) (meta_map_at w) 7 (tree_of (plain_tree 4)) (overflow_at w) (data_overflow w)
  unfolding overflow_blocks
  data_overflow_seen =
      let data_few = fits.data_blocks_fit in
      tree_seen 11 n w.data_blocks (thin_layout n w.data_blocks) image blocks (meta_map_at w) 7 (tree_of (plain_tree 4)) (layout_roles n w.data_blocks).data_overflow (omega arith) few_roles (omega arith) few within
      (overflow_at w) (data_overflow w) (omega arith) (omega arith) (overflow_are blocks (meta_map_at w) (data_counts w) w.data_blocks (omega arith) (λ d within. few_counts d))
      standing.overflow super_stands.names.1.1.1.0

  -- all parts up to the metadata map
  pub parts_fitting : AllFrom (IsFitting (graph_of 11 n w.data_blocks (thin_layout n w.data_blocks)) image (pool_blocks w n) (meta_map_at w)) 1 (pool_parts w)
  unfolding top_blocks details_blocks index_blocks overflow_blocks
  parts_fitting =
      all_hold Fitting w (record {
        devices = devices_fitting;
        tops = tops_seen.fitting;
        details = details_seen.fitting;
        bitmaps = bitmaps_fitting;
        index = data_index_seen.fitting;
        overflow = data_overflow_seen.fitting;
      })

  pub mapping_root_leads : LeadsBelow (pool_blocks w n) (meta_map_at w) (edge_of 2 (mapping_root w))
  unfolding top_blocks
  mapping_root_leads = root_leads image blocks (meta_map_at w) 2 (tree_of (tree_to 8 3 (λ v. v))) (tops_at w) (tops w) (omega arith) (omega arith) (omega arith) standing.tops

  pub details_root_leads : LeadsBelow (pool_blocks w n) (meta_map_at w) (edge_of 4 (details_root w))
  unfolding details_blocks
  details_root_leads = root_leads image blocks (meta_map_at w) 4 (tree_of (plain_tree 24)) (details_at w) (details_items w.devices) (omega arith) (omega arith) (omega arith) standing.details

  pub data_index_root_leads : LeadsBelow (pool_blocks w n) (meta_map_at w) (edge_of 5 (data_index_root w))
  unfolding index_blocks
  data_index_root_leads = root_leads image blocks (meta_map_at w) 5 (tree_of (tree_to 16 6 (λ v. v % 2 ^ 64))) (index_at w) (data_index w) (omega arith) (omega arith) (omega arith) standing.index

  pub data_overflow_root_leads : LeadsBelow (pool_blocks w n) (meta_map_at w) (edge_of 7 (data_overflow_root w))
  unfolding overflow_blocks
  data_overflow_root_leads = root_leads image blocks (meta_map_at w) 7 (tree_of (plain_tree 4)) (overflow_at w) (data_overflow w) (omega arith) (omega arith) (omega arith) standing.overflow

  -- so all that is named before the metadata map lies before it, and is few
  pub named_before : AllByRecursion (λ r. r < meta_map_at w) (pool_named w)
  unfolding pool_named
  named_before = (
    omega arith,
    (
      mapping_root_leads.below,
      (
        details_root_leads.below,
        (
          data_index_root_leads.below,
          (
            data_overflow_root_leads.below,
            named_lower this image blocks (meta_map_at w) 1 (pool_parts w) parts_fitting,
          ),
        ),
      ),
    ),
  )

  few_named_before : length (pool_named w) < 2 ^ 32
  unfolding pool_named
  few_named_before = omega (arith, few_named this image blocks (meta_map_at w) lawful_graph 1 (pool_parts w) parts_fitting, parts_number w)

  -- the metadata map
  abbrev pub end : ℕ
  end = meta_map_at w + length (meta_map_blocks w n)

  pub meta_map_seen : IsMetaMapSeen (graph_of 11 n w.data_blocks (thin_layout n w.data_blocks)) image (pool_blocks w n) (meta_map_at w + length (meta_map_blocks w n)) 8 n (meta_map_at w) (pool_named w)
  unfolding meta_map_blocks
  meta_map_seen =
      map_seen 11 n w.data_blocks (thin_layout n w.data_blocks) image blocks end 8 (meta_map_at w) (pool_named w)
      (layout_roles n w.data_blocks).meta_index (layout_roles n w.data_blocks).meta_bitmap (layout_roles n w.data_blocks).meta_overflow (omega arith) few_roles few room (omega arith) (omega arith)
      named_before few_named_before meta_stands super_stands.names.1.1.1.1.0 super_stands.names.1.1.1.1.1.0

  pub meta_fitting : AllFrom (IsFitting (graph_of 11 n w.data_blocks (thin_layout n w.data_blocks)) image (pool_blocks w n) (meta_map_at w + length (meta_map_blocks w n))) (meta_map_at w) (meta_map_blocks w n)
  unfolding meta_map_blocks
  meta_fitting = meta_map_seen.fitting
