-- Trusted base.
-- The shape of a thin pool: its meaning, told with the leaves that its devices share.
-- The shape of a pool's image, where it has no fault up to the stage Whole: which leaves its devices share.
use Rattle.std.specs.Prelude.{◌≡◌, ℕ, ◌^◌, ◌<◌, ◌≤◌, ◌==◌, true, List, [], ◌∷◌, length, map, ◌&&◌, Bool, nat_lt, nat_le, ◌++◌, filter, count_by, Option, Some, None}
use Rattle.std.specs.List.{AllByRecursion, list_any, flat_map, slice_get, range_with_len, position}
use Rattle.std.specs.Option.{unwrap_or}
use Rattle.pd_kinds.specs.Meaning.{Mapping, ThinDevice, ThinPool, thin_meaning}
use Rattle.pd_kinds.specs.Node.{Entry}
use Rattle.pd_kinds.specs.Graph.{Graph, block_at, pair, block_of, is_inner_pair, children, gathered}
use Rattle.pd_kinds.specs.Layout.{leaf_entries}
use Rattle.pd_kinds.specs.ThinFormat.{thin_fields, thin_graph, mapped_block, mapped_time}
use Rattle.pd_kinds.specs.Whole.{top_entries}

-- a piece of a device's mappings: some of its own, or all of a shared leaf, by its number
pub data Piece : Type 0 where
  own : List Mapping → Piece
  shared : ℕ → Piece

-- a device, with its details and its pieces by ascending virtual block
pub record ShapeDevice : Type 0 where
  pub id : ℕ
  pub mapped : ℕ
  pub transaction : ℕ
  pub created : ℕ
  pub snapped : ℕ
  pub pieces : List Piece

-- a pool, with the mappings of each shared leaf, and its devices by ascending id
pub record ThinShape : Type 0 where
  pub uuid : List ℕ
  pub time : ℕ
  pub transaction : ℕ
  pub block_size : ℕ
  pub data_blocks : ℕ
  pub leaves : List (List Mapping)
  pub devices : List ShapeDevice

-- the mappings of a shared leaf, and of a piece
abbrev pub leaf_mappings : List (List Mapping) → ℕ → List Mapping
leaf_mappings leaves number = unwrap_or (slice_get leaves number) []

abbrev pub piece_mappings : List (List Mapping) → Piece → List Mapping
piece_mappings leaves (own mappings) = mappings
piece_mappings leaves (shared number) = leaf_mappings leaves number

-- the meaning of a shape: a device's mappings are those of its pieces
abbrev pub device_of : List (List Mapping) → ShapeDevice → ThinDevice
device_of leaves d = record {
  id = d.id;
  mapped = d.mapped;
  transaction = d.transaction;
  created = d.created;
  snapped = d.snapped;
  mappings = flat_map (piece_mappings leaves) d.pieces;
}

unfoldable pub pool_of : ThinShape → ThinPool
pool_of w = record {
  uuid = w.uuid;
  time = w.time;
  transaction = w.transaction;
  block_size = w.block_size;
  data_blocks = w.data_blocks;
  devices = map (device_of w.leaves) w.devices;
}

-- a meaning as a shape: no leaf is shared, and each device's mappings are one piece of its own, or none
abbrev pub unshared_pieces : List Mapping → List Piece
unshared_pieces [] = []
unshared_pieces (mapping ∷ mappings) = own (mapping ∷ mappings) ∷ []

abbrev pub unshared_device : ThinDevice → ShapeDevice
unshared_device d = record {
  id = d.id;
  mapped = d.mapped;
  transaction = d.transaction;
  created = d.created;
  snapped = d.snapped;
  pieces = unshared_pieces d.mappings;
}

unfoldable pub shape_of : ThinPool → ThinShape
shape_of m = record {
  uuid = m.uuid;
  time = m.time;
  transaction = m.transaction;
  block_size = m.block_size;
  data_blocks = m.data_blocks;
  leaves = [];
  devices = map unshared_device m.devices;
}

-- the shared leaves that a device uses
abbrev pub uses_of_piece : Piece → List ℕ
uses_of_piece (own mappings) = []
uses_of_piece (shared number) = number ∷ []

abbrev pub uses_of : ShapeDevice → List ℕ
uses_of d = flat_map uses_of_piece d.pieces

-- a piece is some mappings, or a leaf that there is; and two pieces of a device's own don't stand side by side
abbrev pub ArePieces : ℕ → List Piece → Type 0
ArePieces leaves [] = Unit {0}
ArePieces leaves (own mappings ∷ []) = 1 ≤ length mappings
ArePieces leaves (own mappings ∷ own others ∷ pieces) = ⊥
ArePieces leaves (own mappings ∷ shared number ∷ pieces) = (1 ≤ length mappings) × ((number < leaves) × ArePieces leaves pieces)
ArePieces leaves (shared number ∷ pieces) = (number < leaves) × ArePieces leaves pieces

-- what a shape keeps besides that its meaning is lawful: the numbers of its shared leaves fit, each has 1 to 252
-- mappings, and some device uses it
pub record IsShape (w : ThinShape) : Type 0 where
  pub numbers_fit : length w.leaves ≤ 2 ^ 64
  pub filled : AllByRecursion (λ mappings. 1 ≤ length mappings) w.leaves
  pub few : AllByRecursion (λ mappings. length mappings ≤ 252) w.leaves
  pub pieces : AllByRecursion (λ (d : ShapeDevice). ArePieces (length w.leaves) d.pieces) w.devices
  pub used : (number : ℕ) → number < length w.leaves → list_any (λ used. used == number) (flat_map uses_of w.devices) ≡ true

-- the leaves of a device's mappings from its root, from left to right
unfoldable pub leaf_blocks : Graph → List (List ℕ) → ℕ → List ℕ
leaf_blocks graph image root =
    gathered (is_inner_pair graph image) (children graph image) (λ p. block_of p ∷ []) 63 (pair root 3)

-- the mappings of a leaf
abbrev pub mappings_in : List (List ℕ) → ℕ → List Mapping
mappings_in image b =
    map (λ (e : Entry). record { virtual_block = e.key; data_block = mapped_block e.value; time = mapped_time e.value })
    (leaf_entries 8 (block_at image b))

-- the roots of the devices' mappings, by ascending id
abbrev pub device_roots : Graph → List (List ℕ) → List ℕ
device_roots graph image =
    map (λ (e : Entry). e.value) (top_entries graph image (thin_fields (block_at image 0)).mapping_root)

-- the leaves of all devices, one device after another
abbrev pub all_leaf_blocks : Graph → List (List ℕ) → List ℕ
all_leaf_blocks graph image = flat_map (leaf_blocks graph image) (device_roots graph image)

-- a shared leaf stands in the trees of the devices twice or more, and has 1 to 252 mappings
abbrev pub is_shared_leaf : Graph → List (List ℕ) → ℕ → Bool
is_shared_leaf graph image b =
    nat_lt 1 (count_by (λ leaf. leaf == b) (all_leaf_blocks graph image))
    && (nat_le 1 (length (mappings_in image b)) && nat_le (length (mappings_in image b)) 252)

-- the shared leaves, ascending
unfoldable pub shared_leaves : Graph → List (List ℕ) → List ℕ
shared_leaves graph image = filter (is_shared_leaf graph image) (range_with_len 0 graph.nr)

-- some mappings of a device's own before its pieces: they lengthen a first piece of its own
abbrev pub with_own : List Mapping → List Piece → List Piece
with_own [] pieces = pieces
with_own (m ∷ ms) [] = own (m ∷ ms) ∷ []
with_own (m ∷ ms) (own others ∷ pieces) = own ((m ∷ ms) ++ others) ∷ pieces
with_own (m ∷ ms) (shared number ∷ pieces) = own (m ∷ ms) ∷ shared number ∷ pieces

-- a leaf before the pieces of those after it: a shared one by its number, else by its mappings
abbrev pub with_leaf : List Mapping → Option ℕ → List Piece → List Piece
with_leaf mappings (Some number) pieces = shared number ∷ pieces
with_leaf mappings None pieces = with_own mappings pieces

-- the pieces of the leaves of a device, where these leaves are shared
abbrev pub pieces_of : List (List ℕ) → List ℕ → List ℕ → List Piece
pieces_of image shared_ones [] = []
pieces_of image shared_ones (b ∷ leaves) =
    with_leaf (mappings_in image b) (position (λ leaf. leaf == b) shared_ones) (pieces_of image shared_ones leaves)

-- a device of the image's meaning with its pieces, by the root of its mappings
abbrev pub device_shapes : Graph → List (List ℕ) → List ThinDevice → List ℕ → List ShapeDevice
device_shapes graph image [] roots = []
device_shapes graph image (d ∷ devices) [] = []
device_shapes graph image (d ∷ devices) (root ∷ roots) =
    record {
      id = d.id;
      mapped = d.mapped;
      transaction = d.transaction;
      created = d.created;
      snapped = d.snapped;
      pieces = pieces_of image (shared_leaves graph image) (leaf_blocks graph image root);
    }
    ∷ device_shapes graph image devices roots

-- the shape of a thin image: the words of its meaning, the mappings of the shared leaves, and the devices by their pieces
unfoldable pub image_shape : List (List ℕ) → ThinShape
image_shape image =
    let m = thin_meaning image in
    let graph = thin_graph (block_at image 0) in
    record {
      uuid = m.uuid;
      time = m.time;
      transaction = m.transaction;
      block_size = m.block_size;
      data_blocks = m.data_blocks;
      leaves = map (mappings_in image) (shared_leaves graph image);
      devices = device_shapes graph image m.devices (device_roots graph image);
    }
