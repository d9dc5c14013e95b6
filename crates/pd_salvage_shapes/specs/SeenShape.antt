-- The shape of what was met of devices.
-- The devices with their pieces.
-- How often leaves are met whole, and what was met of devices.
use Rattle.std.specs.Prelude.{◌≡◌, ℕ, ◌+◌, List, [], ◌∷◌, ◌++◌, length, map, sum_by, ◌<◌, ◌≤◌, ◌==◌, true, min, count_by, slice_index, Some, nat_lt, filter}
use Rattle.std.specs.List.{AllByRecursion, flat_map, slice_get, range_with_len}
use Rattle.std.specs.Option.{option_to_list}
use Rattle.pd_kinds.specs.ThinFormat.{ThinFields}
use Rattle.pd_laid.specs.Shape.{ShapeDevice, ThinShape}
use Rattle.pd_meaning_thin.specs.declared.joined.Run.{Run}
use Rattle.pd_laid.specs.PoolText.{device_of_part}
use Rattle.pd_salvage.specs.declared.saved_shape.ShapedDevice.{ShapedDevice}
use Rattle.pd_salvage.specs.declared.saved_shape.SavedPiece.{SavedPiece}
use Rattle.pd_salvage.specs.SavedShape.{IsPartJoined, device_parts, runs_of_pieces}
use Rattle.pd_salvage_shapes.specs.declared.pieces.ShapedDevices.{ShapedDevices}
use Rattle.pd_salvage_shapes.specs.declared.note.LeafNote.{LeafNote}
use Rattle.pd_salvage_shapes.specs.declared.pieces.Piecing.{Piecing}
use Rattle.pd_salvage_shapes.specs.declared.tops.Top.{Top}
use Rattle.pd_salvage_shapes.specs.declared.visiting.Seen.{Seen}
use Rattle.pd_salvage_shapes.specs.Pieces.{AreNumbers, HasPieces, IsIdle, IsPiecing, pieces_of_mets, AreRuns, leaf_maps}
use Rattle.pd_salvage_shapes.specs.Visiting.{mets_at, mets_of}
use Rattle.pd_salvage_shapes.specs.Note.{Met, noted}

-- a device with its pieces, and each of some
abbrev pub shaped_device : List ℕ → List LeafNote → Top → Seen → ShapeDevice
shaped_device ones notes t d = record {
  id = t.id;
  mapped = d.mapped;
  transaction = t.details.transaction;
  created = t.details.created;
  snapped = t.details.snapped;
  pieces = pieces_of_mets ones (mets_of notes d.met);
}

abbrev pub shaped_devices : List ℕ → List LeafNote → List Top → List Seen → List ShapeDevice
shaped_devices ones notes [] seen = []
shaped_devices ones notes (t ∷ tops) [] = []
shaped_devices ones notes (t ∷ tops) (d ∷ seen) = shaped_device ones notes t d ∷ shaped_devices ones notes tops seen

-- the note with a number was taken
abbrev pub TakesAt : List LeafNote → List ℕ → ℕ → Piecing → Piecing → Type 0
TakesAt notes numbers k old new =
    (ones : List ℕ) (pieces : List SavedPiece) (runs : List Run) (done : List Met) → AreNumbers ones numbers
    → IsPiecing ones pieces runs old done → IsPiecing ones pieces runs new (done ++ mets_at (slice_get notes k))

-- what a device met was taken
pub record TakesDevice (notes : List LeafNote) (numbers met : List ℕ) (count : ℕ) (old new : Piecing) : Type 0 where
  pub idle : IsIdle new
  pub has : (ones : List ℕ) → AreNumbers ones numbers → HasPieces ones old.pieces.items old.runs new (mets_of notes met)
  pub counted : (ones : List ℕ) → AreNumbers ones numbers → length old.pieces.items + count ≡ length new.pieces.items

-- a device was added
pub record AddsDevice (notes : List LeafNote) (numbers : List ℕ) (t : Top) (d : Seen) (old new : ShapedDevices) : Type 0 where
  pub count : ℕ
  pub takes : TakesDevice notes numbers d.met count old.piecing new.piecing
  pub added : new.devices.items ≡ old.devices.items ++ record { id = t.id; details = record t.details { mapped = d.mapped }; pieces = count } ∷ []

-- the pieces and the runs of these devices
pub record AreShaped (ones : List ℕ) (notes : List LeafNote) (tops : List Top) (seen : List Seen) (shaped : ShapedDevices) : Type 0 where
  pub means : map device_of_part (device_parts shaped.devices.items shaped.piecing.pieces.items shaped.piecing.runs) ≡ shaped_devices ones notes tops seen
  pub joined : AllByRecursion IsPartJoined (device_parts shaped.devices.items shaped.piecing.pieces.items shaped.piecing.runs)
  pub piece_number : sum_by (λ (d : ShapedDevice). d.pieces) shaped.devices.items ≡ length shaped.piecing.pieces.items
  pub number : runs_of_pieces shaped.piecing.pieces.items ≡ length shaped.piecing.runs

-- the leaves that were met whole
abbrev pub leaves_of : List Met → List ℕ
leaves_of mets = flat_map (λ (m : Met). option_to_list m.leaf) mets

-- by block how often it is among some: 2 stands for more, too
abbrev pub AreUses : List ℕ → List ℕ → Type 0
AreUses blocks uses = (b : ℕ) → b < length uses → slice_index uses b ≡ min 2 (count_by (λ c. c == b) blocks)

-- the notes' runs are a pool's, and those of whole leaves have mappings, and their blocks are among so many
pub record AreSized (blocks : ℕ) (notes : List LeafNote) : Type 0 where
  pub runs : (k : ℕ) (note : LeafNote) → slice_get notes k ≡ Some note → AreRuns note.runs
  pub some : (k : ℕ) (note : LeafNote) → slice_get notes k ≡ Some note → note.full ≡ true → 1 ≤ length (noted note)
  pub within : (k : ℕ) (note : LeafNote) → slice_get notes k ≡ Some note → note.full ≡ true → note.block < blocks

-- the numbers are those of notes
abbrev pub AreWithin : List LeafNote → List ℕ → Type 0
AreWithin notes met = (i : ℕ) → i < length met → slice_index met i < length notes

-- all that was met
abbrev pub all_mets : List LeafNote → List Seen → List Met
all_mets notes seen = flat_map (λ (d : Seen). mets_of notes d.met) seen

abbrev pub AllWithin : List LeafNote → List Seen → Type 0
AllWithin notes seen = (i : ℕ) (d : Seen) → slice_get seen i ≡ Some d → AreWithin notes d.met

-- the blocks below a number that stand twice or more among some, ascending
abbrev pub shared_of : ℕ → List ℕ → List ℕ
shared_of blocks leaves = filter (λ b. nat_lt 1 (count_by (λ c. c == b) leaves)) (range_with_len 0 blocks)

-- the leaves that were met whole twice or more
abbrev pub ones_of : ThinFields → List LeafNote → List Seen → List ℕ
ones_of fields notes seen = shared_of fields.meta_map.blocks (leaves_of (all_mets notes seen))

unfoldable pub seen_shape : ThinFields → List ℕ → List LeafNote → List Top → List Seen → ThinShape
seen_shape fields places notes tops seen = record {
  uuid = fields.uuid;
  time = fields.time;
  transaction = fields.transaction;
  block_size = fields.block_size;
  data_blocks = fields.data_map.blocks;
  leaves = map (leaf_maps places notes) (ones_of fields notes seen);
  devices = shaped_devices (ones_of fields notes seen) notes tops seen;
}
