-- A pool that is held in memory with the leaves that its devices share, and the shape that it is.
-- A piece in a word.
use Rattle.std.specs.Prelude.{◌≡◌, ℕ, List, [], ◌∷◌, length, map, take, drop, sum_by, ◌/◌, ◌%◌, ◌==◌, if◌then◌else◌}
use Rattle.std.specs.List.{AllByRecursion}
use Rattle.pd_grammar.specs.Lawful.{IsLawfulPool}
use Rattle.pd_grammar.specs.ThinText.{joined_runs}
use Rattle.pd_grammar.specs.ThinText as text
use Rattle.pd_laid.specs.Shape.{IsShape, ThinShape, pool_of}
use Rattle.pd_laid.specs.PoolText.{PartPiece, own_runs, used_leaf, SharedPart, device_of_part, mappings_of_runs}
use Rattle.pd_meaning_thin.specs.declared.joined.Run.{Run}
use Rattle.pd_meaning_thin.specs.Runs.{spelled}
use Rattle.pd_salvage.specs.declared.saved.SavedHead.{SavedHead}
use Rattle.pd_salvage.specs.Saved.{head_at}
use Rattle.pd_salvage.specs.declared.saved_shape.SavedLeaf.{SavedLeaf}
use Rattle.pd_salvage.specs.declared.saved_shape.SavedPiece.{SavedPiece}
use Rattle.pd_salvage.specs.declared.saved_shape.SavedPiece.TheVariants.{Own, Shared}
use Rattle.pd_salvage.specs.declared.saved_shape.ShapedDevice.{ShapedDevice}

-- what is held: the head; the shared leaves, and the runs of all of them, those of the first one first; the devices, the
-- pieces of all of them, and the runs of all pieces of devices' own, in the same order
pub record HeldShape : Type 0 where
  pub head : SavedHead
  pub leaves : List SavedLeaf
  pub leaf_runs : List Run
  pub devices : List ShapedDevice
  pub pieces : List SavedPiece
  pub runs : List Run

abbrev pub held : SavedHead → List SavedLeaf → List Run → List ShapedDevice → List SavedPiece → List Run → HeldShape
held head leaves leaf_runs devices pieces runs =
    record { head = head; leaves = leaves; leaf_runs = leaf_runs; devices = devices; pieces = pieces; runs = runs }

-- the same with another snapshot count, and with other devices
abbrev pub with_devices : HeldShape → ℕ → List ShapedDevice → HeldShape
with_devices h time devices = held (head_at h.head time) h.leaves h.leaf_runs devices h.pieces h.runs

-- the leaves, each with as many of the runs as are its
abbrev pub leaf_parts : List SavedLeaf → List Run → List (List text.Run)
leaf_parts [] runs = []
leaf_parts (leaf ∷ leaves) runs = map spelled (take leaf.runs runs) ∷ leaf_parts leaves (drop leaf.runs runs)

-- how many runs a piece has, and how many some pieces have
abbrev pub runs_of_piece : SavedPiece → ℕ
runs_of_piece (Own runs) = runs
runs_of_piece (Shared number) = 0

abbrev pub runs_of_pieces : List SavedPiece → ℕ
runs_of_pieces pieces = sum_by runs_of_piece pieces

-- the pieces as a text gives them, each with as many of the runs as are its
abbrev pub piece_part : SavedPiece → List Run → PartPiece
piece_part (Own number) runs = own_runs (map spelled runs)
piece_part (Shared number) runs = used_leaf number

abbrev pub piece_parts : List SavedPiece → List Run → List PartPiece
piece_parts [] runs = []
piece_parts (piece ∷ pieces) runs =
    piece_part piece (take (runs_of_piece piece) runs) ∷ piece_parts pieces (drop (runs_of_piece piece) runs)

-- the devices as a text gives them, each with as many of the pieces and of the runs as are its
abbrev pub device_part : ShapedDevice → List PartPiece → SharedPart
device_part d pieces = record {
  details = record {
    id = d.id;
    mapped = d.details.mapped;
    transaction = d.details.transaction;
    created = d.details.created;
    snapped = d.details.snapped;
  };
  pieces = pieces;
}

abbrev pub device_parts : List ShapedDevice → List SavedPiece → List Run → List SharedPart
device_parts [] pieces runs = []
device_parts (d ∷ devices) pieces runs =
    device_part d (piece_parts (take d.pieces pieces) runs)
    ∷ device_parts devices (drop d.pieces pieces) (drop (runs_of_pieces (take d.pieces pieces)) runs)

-- the shape that is held
unfoldable pub held_shape : HeldShape → ThinShape
held_shape h = record {
  uuid = h.head.uuid;
  time = h.head.time;
  transaction = h.head.transaction;
  block_size = h.head.block_size;
  data_blocks = h.head.blocks;
  leaves = map mappings_of_runs (leaf_parts h.leaves h.leaf_runs);
  devices = map device_of_part (device_parts h.devices h.pieces h.runs);
}

-- each leaf has as many mappings as it says
abbrev pub AreCounted : List SavedLeaf → List Run → Type 0
AreCounted [] runs = Unit {0}
AreCounted (leaf ∷ leaves) runs =
    (leaf.entries ≡ length (mappings_of_runs (map spelled (take leaf.runs runs)))) × AreCounted leaves (drop leaf.runs runs)

-- the runs of a leaf are as long as can be, and so are those of a piece and those of a device
abbrev pub IsJoined : List text.Run → Type 0
IsJoined runs = joined_runs (mappings_of_runs runs) ≡ runs

abbrev pub IsPieceJoined : PartPiece → Type 0
IsPieceJoined (own_runs runs) = IsJoined runs
IsPieceJoined (used_leaf number) = Unit {0}

abbrev pub IsPartJoined : SharedPart → Type 0
IsPartJoined part = AllByRecursion IsPieceJoined part.pieces

-- what is held is a shape, its meaning is lawful, its runs are as long as can be, and each run and each piece is of a leaf
-- or of a device
pub record IsSavedShape (h : HeldShape) : Type 0 where
  pub shape : IsShape (held_shape h)
  pub lawful : IsLawfulPool (pool_of (held_shape h))
  pub counted : AreCounted h.leaves h.leaf_runs
  pub leaves_joined : AllByRecursion IsJoined (leaf_parts h.leaves h.leaf_runs)
  pub joined : AllByRecursion IsPartJoined (device_parts h.devices h.pieces h.runs)
  pub leaf_number : sum_by (λ (leaf : SavedLeaf). leaf.runs) h.leaves ≡ length h.leaf_runs
  pub piece_number : sum_by (λ (d : ShapedDevice). d.pieces) h.devices ≡ length h.pieces
  pub number : runs_of_pieces h.pieces ≡ length h.runs

-- the number is half of it, and its lowest bit says whether it is that of a shared leaf
abbrev pub piece_in : ℕ → SavedPiece
piece_in word = if word % 2 == 0 then Own (word / 2) else Shared (word / 2)
