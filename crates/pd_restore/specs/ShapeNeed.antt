-- What a saved shape needs, by its pieces and runs.
-- Which data blocks stand three times or more in what was saved.
-- The data blocks of shared leaves, once for each use.
use Rattle.std.specs.Prelude.{◌≡◌, ℕ, ◌+◌, ◌<◌, List, [], ◌∷◌, length, map, take, drop, sum_by, zero, suc, ◌^◌, ◌≤◌, ◌==◌, min, ◌++◌, count_by}
use Rattle.std.specs.List.{flat_map, range_with_len}
use Rattle.pd_grammar.specs.Need.{nodes_for, overflows_in}
use Rattle.pd_laid.specs.Shape.{uses_of_piece}
use Rattle.pd_laid.specs.PoolText.{own_number, PartPiece, SharedPart, piece_of_part}
use Rattle.pd_count.specs.Counted.{Counted, count_of}
use Rattle.pd_meaning_thin.specs.Packed.{runs_from}
use Rattle.pd_meaning_thin.specs.declared.joined.Run.{Run}
use Rattle.pd_devices.specs.SharedGrowth.{need_ended}
use Rattle.pd_devices.specs.declared.growing.NeedCounts.{NeedCounts}
use Rattle.pd_restore.specs.declared.shape_need.LeafCounts.{LeafCounts}
use Rattle.pd_restore.specs.declared.shape_need.TreeCounts.{TreeCounts}
use Rattle.pd_salvage.specs.declared.saved_shape.SavedPiece.{SavedPiece}
use Rattle.pd_salvage.specs.declared.saved_shape.SavedPiece.TheVariants.{Own, Shared}
use Rattle.pd_salvage.specs.declared.saved_shape.ShapedDevice.{ShapedDevice}
use Rattle.pd_salvage.specs.SavedShape.{HeldShape, IsSavedShape, device_parts, piece_parts, runs_of_piece, runs_of_pieces}
use Rattle.pd_salvage.specs.declared.saved_shape.SavedLeaf.{SavedLeaf}

-- the leaf that a piece uses
abbrev pub uses_of_saved : SavedPiece → List ℕ
uses_of_saved (Own runs) = []
uses_of_saved (Shared number) = number ∷ []

abbrev pub IsUseBelow : ℕ → SavedPiece → Type 0
IsUseBelow leaves (Own runs) = Unit {0}
IsUseBelow leaves (Shared number) = number < leaves

-- how many leaves some pieces have of their own, and how many they use
unfoldable pub own_leaves : List PartPiece → ℕ
own_leaves parts = sum_by (λ n. nodes_for 252 n) (flat_map own_number (map piece_of_part parts))

unfoldable pub uses_number : List PartPiece → ℕ
uses_number parts = length (flat_map uses_of_piece (map piece_of_part parts))

-- the blocks of the trees of some devices besides the shared leaves
abbrev pub tree_of_part : SharedPart → ℕ
tree_of_part part = need_ended (own_leaves part.pieces) (uses_number part.pieces)

unfoldable pub trees_of_parts : List SharedPart → ℕ
trees_of_parts parts = sum_by tree_of_part parts

-- these are the numbers of some pieces, whose runs come first of these; and those with a piece more, whose runs come next
pub record CountsPieces (pieces : List SavedPiece) (all runs : List Run) (c : LeafCounts) : Type 0 where
  pub own : c.own ≡ own_leaves (piece_parts pieces runs)
  pub uses : c.uses ≡ uses_number (piece_parts pieces runs)
  pub taken : runs_from all c.place ≡ drop (runs_of_pieces pieces) runs

pub record AddsPiece (old : LeafCounts) (piece : SavedPiece) (all : List Run) (c : LeafCounts) : Type 0 where
  pub own : c.own ≡ old.own + own_leaves (piece_parts (piece ∷ []) (runs_from all old.place))
  pub uses : c.uses ≡ old.uses + uses_number (piece_parts (piece ∷ []) (runs_from all old.place))
  pub taken : runs_from all c.place ≡ drop (runs_of_piece piece) (runs_from all old.place)

-- the same with a device more, whose pieces and runs come next
pub record AddsDevice (old : TreeCounts) (d : ShapedDevice) (pieces : List SavedPiece) (runs : List Run) (c : TreeCounts) : Type 0 where
  pub trees : c.trees ≡ old.trees + trees_of_parts (device_parts (d ∷ []) (drop old.pieces pieces) (runs_from runs old.place))
  pub met : c.pieces ≡ old.pieces + d.pieces
  pub taken : runs_from runs c.place ≡ drop (runs_of_pieces (take d.pieces (drop old.pieces pieces))) (runs_from runs old.place)

-- how many pieces some devices have
abbrev pub pieces_of : List ShapedDevice → ℕ
pieces_of devices = sum_by (λ (d : ShapedDevice). d.pieces) devices

-- these are the numbers of some devices, whose pieces and runs come first
pub record CountsDevices (devices : List ShapedDevice) (pieces : List SavedPiece) (runs : List Run) (c : TreeCounts) : Type 0 where
  pub trees : c.trees ≡ trees_of_parts (device_parts devices pieces runs)
  pub met : c.pieces ≡ pieces_of devices
  pub taken : runs_from runs c.place ≡ drop (runs_of_pieces (take (pieces_of devices) pieces)) runs

-- the need of a saved shape goes by these numbers, where so many of its data blocks stand three times or more
pub record ArePartsOf (h : HeldShape) (over : ℕ) (c : NeedCounts) : Type 0 where
  pub sound : IsSavedShape h
  pub leaves : c.leaves ≡ length h.leaves
  pub often : c.often ≡ overflows_in (flat_map uses_of_saved h.pieces) (length h.leaves)
  pub trees : c.trees ≡ trees_of_parts (device_parts h.devices h.pieces h.runs)
  pub begun : c.begun ≡ 0
  pub devices : c.devices ≡ length h.devices
  pub blocks : c.blocks ≡ h.head.blocks
  pub thrice : c.over ≡ over

-- each block was counted as often as it stands in the list, up to three times
abbrev pub HasCountedThrice : Counted → List ℕ → Type 0
HasCountedThrice counts blocks = (b : ℕ) → count_of counts b ≡ min (count_by (λ r. r == b) blocks) 3

-- the data blocks of some runs
abbrev pub data_of_runs : List Run → List ℕ
data_of_runs runs = flat_map (λ (r : Run). range_with_len r.target r.length) runs

-- a run's data blocks are some of so many, and its time has 24 bits
pub record IsRunIn (blocks : ℕ) (r : Run) : Type 0 where
  pub within : r.target + r.length ≤ blocks
  pub timed : r.time < 2 ^ 24

-- so many copies of a list, one behind the other
unfoldable pub copies : ℕ → List ℕ → List ℕ
copies zero blocks = []
copies (suc n) blocks = copies n blocks ++ blocks

-- the data blocks of some runs, each run's so many times
abbrev pub runs_used : ℕ → List Run → List ℕ
runs_used times runs = flat_map (λ (r : Run). copies times (range_with_len r.target r.length)) runs

-- those of leaves from a number on, whose runs come first of these, each leaf's as often as it is used
abbrev pub leaves_used : (ℕ → ℕ) → ℕ → List SavedLeaf → List Run → List ℕ
leaves_used times number [] runs = []
leaves_used times number (leaf ∷ leaves) runs =
    runs_used (times number) (take leaf.runs runs) ++ leaves_used times (suc number) leaves (drop leaf.runs runs)
