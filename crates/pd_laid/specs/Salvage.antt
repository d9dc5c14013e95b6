-- Trusted base.
-- What can be saved of a damaged thin pool: the entries that a path of sound nodes leads to from the roots of a
-- superblock, where they lie in every range on that path.
-- The leaves that a salvage visits: those that paths of sound nodes lead to, each with the range of keys in which it is met.
-- The shape of what can be saved of a damaged pool: a leaf that is met whole twice or more is shared, and what is saved of the
-- others is a device's own.
use Rattle.std.specs.Prelude.{ℕ, zero, suc, ◌+◌, ◌/◌, ◌%◌, ◌^◌, max, min, ◌&&◌, ◌||◌, ◌==◌, Bool, not, nat_lt, if◌then◌else◌, List, [], length, map, filter, ◌∷◌, nat_le, count_by, Option, None}
use Rattle.std.specs.List.{list_any, flat_map, range_with_len, position}
use Rattle.std.specs.Option.{unwrap_or}
use Rattle.pd_kinds.specs.Rule.{all_rules}
use Rattle.pd_kinds.specs.Graph.{is_outside, block_at}
use Rattle.pd_kinds.specs.Field.{details_code}
use Rattle.pd_kinds.specs.Node.{Entry, node_bad, entry_count, key_at, child_at, is_inner_node}
use Rattle.pd_kinds.specs.Layout.{leaf_entries}
use Rattle.pd_kinds.specs.Trees.{value_of_key}
use Rattle.pd_kinds.specs.ThinFormat.{ThinFields, thin_fields, mapped_block, mapped_time}
use Rattle.pd_kinds.specs.Meaning.{Mapping, ThinDevice, ThinPool}
use Rattle.pd_laid.specs.Shape.{Piece, ShapeDevice, ThinShape, mappings_in, with_leaf}

-- whether a node breaks a rule of its own, whatever its entries name: any but Pointer and Beyond
unfoldable pub is_damaged : ℕ → ℕ → List ℕ → Bool
is_damaged size place block = list_any (node_bad size place block) all_rules

-- the keys of child i of an inner node begin at its own key, and no lower than the node's range
abbrev pub child_low : List ℕ → ℕ → ℕ → ℕ
child_low block low i = max (key_at block i) low

-- they end before the next key, and no higher than the node's range; those of the last child end with that
abbrev pub child_high : ℕ → List ℕ → ℕ → ℕ → ℕ
child_high size block high i = if i + 1 == entry_count size block then high else min (key_at block (i + 1)) high

-- the entries that a path of at most so many nodes leads to from the node at a place, with keys from low up to
-- and without high: nothing from a place outside the metadata, and nothing from a damaged node
unfoldable pub salvaged_below : ℕ → ℕ → List (List ℕ) → ℕ → ℕ → ℕ → ℕ → List Entry
salvaged_below size nr image zero place low high = []
salvaged_below size nr image (suc j) place low high =
    let block = block_at image place in
    if is_outside nr place || is_damaged size place block
    then []
    else if is_inner_node block
    then flat_map (λ i. salvaged_below size nr image j (child_at block i) (child_low block low i) (child_high size block high i))
    (range_with_len 0 (entry_count size block))
    else filter (λ (e : Entry). not (nat_lt e.key low) && nat_lt e.key high) (leaf_entries size block)

-- the entries below a root: of all keys, by paths of at most 64 nodes
unfoldable pub salvaged_entries : ℕ → ℕ → List (List ℕ) → ℕ → List Entry
salvaged_entries size nr image root = salvaged_below size nr image 64 root 0 (2 ^ 64)

-- the mappings below a device's root, whose data blocks are in the pool
unfoldable pub salvaged_mappings : ThinFields → List (List ℕ) → ℕ → List Mapping
salvaged_mappings fields image root =
    map (λ (e : Entry). record { virtual_block = e.key; data_block = mapped_block e.value; time = mapped_time e.value })
    (filter (λ (e : Entry). nat_lt (mapped_block e.value) fields.data_map.blocks) (salvaged_entries 8 fields.meta_map.blocks image root))

-- The details of a device. Without any they are the pool's transaction, and the pool's time as created and as snapped: a
-- kernel takes a data block for shared where the device's snapped time is above the mapping's, and a mapping that a
-- snapshot shares has a time below the pool's
abbrev pub salvaged_details : ThinFields → List (List ℕ) → ℕ → ℕ
salvaged_details fields image id =
    unwrap_or (value_of_key (salvaged_entries 24 fields.meta_map.blocks image fields.details_root) id) (details_code 0 fields.transaction fields.time fields.time)

-- a device, by its entry of the mapping tree: its mapped number is counted again
unfoldable pub salvaged_device : ThinFields → List (List ℕ) → Entry → ThinDevice
salvaged_device fields image top =
    let details = salvaged_details fields image top.key in
    let mappings = salvaged_mappings fields image top.value in
    record {
      id = top.key;
      mapped = length mappings;
      transaction = details / 2 ^ 64 % 2 ^ 64;
      created = details / 2 ^ 128 % 2 ^ 32;
      snapped = details / 2 ^ 160;
      mappings = mappings;
    }

-- what is saved from the roots of a superblock with these fields: a device whose root is outside is left out
unfoldable pub salvage_from : ThinFields → List (List ℕ) → ThinPool
salvage_from fields image = record {
  uuid = fields.uuid;
  time = fields.time;
  transaction = fields.transaction;
  block_size = fields.block_size;
  data_blocks = fields.data_map.blocks;
  devices = map (salvaged_device fields image)
      (filter (λ (top : Entry). not (is_outside fields.meta_map.blocks top.value)) (salvaged_entries 8 fields.meta_map.blocks image fields.mapping_root));
}

-- what is saved of an image
abbrev pub salvage : List (List ℕ) → ThinPool
salvage image = salvage_from (thin_fields (block_at image 0)) image

-- a leaf, and the range of keys in which it is met: from low up to and without high
pub record Visit : Type 0 where
  pub leaf : ℕ
  pub low : ℕ
  pub high : ℕ

-- the leaves that a path of at most so many nodes leads to from the node at a place, in a range of keys: none from a place
-- outside the metadata, and none from a damaged node
unfoldable pub visits : ℕ → ℕ → List (List ℕ) → ℕ → ℕ → ℕ → ℕ → List Visit
visits size nr image zero place low high = []
visits size nr image (suc j) place low high =
    let block = block_at image place in
    if is_outside nr place || is_damaged size place block
    then []
    else if is_inner_node block
    then flat_map (λ i. visits size nr image j (child_at block i) (child_low block low i) (child_high size block high i))
    (range_with_len 0 (entry_count size block))
    else record { leaf = place; low = low; high = high } ∷ []

-- those below a root: of all keys, by paths of at most 64 nodes
unfoldable pub visited : ℕ → ℕ → List (List ℕ) → ℕ → List Visit
visited size nr image root = visits size nr image 64 root 0 (2 ^ 64)

-- the entries of a visit: those of its leaf in its range
abbrev pub entries_of_visit : ℕ → List (List ℕ) → Visit → List Entry
entries_of_visit size image v =
    filter (λ (e : Entry). not (nat_lt e.key v.low) && nat_lt e.key v.high) (leaf_entries size (block_at image v.leaf))

-- the mappings that a visit saves: those in its range whose data block is in the pool
abbrev pub saved_of_visit : ThinFields → List (List ℕ) → Visit → List Mapping
saved_of_visit fields image v =
    map (λ (e : Entry). record { virtual_block = e.key; data_block = mapped_block e.value; time = mapped_time e.value })
    (filter (λ (e : Entry). nat_lt (mapped_block e.value) fields.data_map.blocks) (entries_of_visit 8 image v))

-- a visit is whole where it saves all mappings of its leaf, and these are 1 to 252
abbrev pub is_whole_visit : ThinFields → List (List ℕ) → Visit → Bool
is_whole_visit fields image v =
    let number = length (mappings_in image v.leaf) in
    (length (saved_of_visit fields image v) == number) && (nat_le 1 number && nat_le number 252)

-- the entries of the mapping tree whose devices are saved
abbrev pub saved_tops : ThinFields → List (List ℕ) → List Entry
saved_tops fields image =
    filter (λ (top : Entry). not (is_outside fields.meta_map.blocks top.value)) (salvaged_entries 8 fields.meta_map.blocks image fields.mapping_root)

-- the visits below the root of a device's mappings, and those of all saved devices
abbrev pub device_visits : ThinFields → List (List ℕ) → Entry → List Visit
device_visits fields image top = visited 8 fields.meta_map.blocks image top.value

abbrev pub saved_visits : ThinFields → List (List ℕ) → List Visit
saved_visits fields image = flat_map (device_visits fields image) (saved_tops fields image)

-- a leaf is shared where it is visited whole twice or more
abbrev pub is_saved_shared : ThinFields → List (List ℕ) → ℕ → Bool
is_saved_shared fields image b =
    nat_lt 1 (count_by (λ (v : Visit). (v.leaf == b) && is_whole_visit fields image v) (saved_visits fields image))

-- the shared leaves, ascending
unfoldable pub saved_shared : ThinFields → List (List ℕ) → List ℕ
saved_shared fields image = filter (is_saved_shared fields image) (range_with_len 0 fields.meta_map.blocks)

-- the number of a visit's leaf among the shared ones, where the visit is whole
abbrev pub number_of_visit : ThinFields → List (List ℕ) → List ℕ → Visit → Option ℕ
number_of_visit fields image shared_ones v =
    if is_whole_visit fields image v then position (λ leaf. leaf == v.leaf) shared_ones else None

-- the pieces of a device's visits, where these leaves are shared: a whole visit of a shared leaf by its number, and what the
-- others between two such visits save as one piece
abbrev pub pieces_of_visits : ThinFields → List (List ℕ) → List ℕ → List Visit → List Piece
pieces_of_visits fields image shared_ones [] = []
pieces_of_visits fields image shared_ones (v ∷ vs) =
    with_leaf (saved_of_visit fields image v) (number_of_visit fields image shared_ones v) (pieces_of_visits fields image shared_ones vs)

-- a saved device with its pieces, by its entry of the mapping tree
abbrev pub saved_device_shape : ThinFields → List (List ℕ) → Entry → ShapeDevice
saved_device_shape fields image top =
    let d = salvaged_device fields image top in
    record {
      id = d.id;
      mapped = d.mapped;
      transaction = d.transaction;
      created = d.created;
      snapped = d.snapped;
      pieces = pieces_of_visits fields image (saved_shared fields image) (device_visits fields image top);
    }

-- the shape of what is saved from the roots of a superblock with these fields: the words and devices of the salvage
unfoldable pub saved_shape_from : ThinFields → List (List ℕ) → ThinShape
saved_shape_from fields image =
    let m = salvage_from fields image in
    record {
      uuid = m.uuid;
      time = m.time;
      transaction = m.transaction;
      block_size = m.block_size;
      data_blocks = m.data_blocks;
      leaves = map (mappings_in image) (saved_shared fields image);
      devices = map (saved_device_shape fields image) (saved_tops fields image);
    }

-- the shape of what is saved of an image
abbrev pub saved_shape : List (List ℕ) → ThinShape
saved_shape image = saved_shape_from (thin_fields (block_at image 0)) image
