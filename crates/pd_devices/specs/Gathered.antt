-- What is gathered of the lines of a pool's text, and what of it is written.
-- The need of a pool by the sum of its devices' trees, as one has it who doesn't keep the devices.
use Rattle.std.specs.Prelude.{◌≡◌, ℕ, ◌+◌, ◌-◌, ◌^◌, ◌≤◌, min, true, nat_lt, ◌&&◌, false, List, [], ◌∷◌, ◌++◌, length, sum, sum_by, Option, None, Some}
use Rattle.std.specs.List.{All, flat_map}
use Rattle.pd_kinds.specs.declared.limits.TheConstants.{MAX_META_BLOCKS}
use Rattle.pd_kinds.specs.Meaning.{ThinDevice}
use Rattle.pd_kinds.specs.Field.{details_code}
use Rattle.pd_kinds.specs.Bitmap.{bitmaps_for}
use Rattle.pd_grammar.specs.Need.{need_tree, mapped_of_line, data_of_line, thin_need_so_far, need_meta_map}
use Rattle.pd_grammar.specs.ThinText.{Line, Run, data_blocks_of, is_shared, leaf_number, piece_end, unmapped}
use Rattle.pd_laid.specs.LaidThin.{mapping_items}
use Rattle.pd_value.specs.declared.thin.Root.{Root}
use Rattle.pd_value.specs.declared.thin.Details.{Details}
use Rattle.pd_node.specs.Items.{entries_of}
use Rattle.pd_draft.specs.Closed.{DraftState, Wrote}
use Rattle.pd_count.specs.Counted.{HasCounted}
use Rattle.pd_build.specs.Tree.{items_to_come, TreeLeft}
use Rattle.pd_devices.specs.declared.devices.Growing.{Growing}
use Rattle.pd_devices.specs.declared.devices.Devices.{Devices}
use Rattle.pd_devices.specs.Devices.{IsBegun, GrowsBy, open_device, whole_devices, MayFollow}
use Rattle.pd_laws_laid.specs.Once.{device_trees, device_roots, device_details}

-- the tree of a device is begun, and has its mappings so far: the next one's virtual block is at least this, and so
-- many are to come
pub record Grown (device : ThinDevice) (least coming : ℕ) (o : Growing) (from to : DraftState) : Type 0 where
  pub id : o.id ≡ device.id
  pub first : TreeLeft
  pub begun : IsBegun 8 device.mapped first
  pub grows : GrowsBy 8 (mapping_items device.mappings) first o.builder from to
  pub low : o.builder.leaves.low ≤ least
  pub left : items_to_come o.builder.leaves ≡ coming

-- the tree of the open device, where there is one
abbrev pub IsOpen : List ThinDevice → ℕ → ℕ → Option Growing → DraftState → DraftState → Type 0
IsOpen [] low left None from to = from ≡ to
IsOpen [] low left (Some o) from to = ⊥
IsOpen (d ∷ []) low left None from to = ⊥
IsOpen (d ∷ []) low left (Some o) from to = Grown d low left o from to
IsOpen (d ∷ e ∷ devices) low left o from to = ⊥

-- how many blocks that tree has
abbrev pub open_need : List ThinDevice → ℕ
open_need [] = 0
open_need (d ∷ devices) = need_tree 8 d.mapped

-- the mapped numbers of the devices, and the data blocks that are mapped
abbrev pub mapped_in : List Line → List ℕ
mapped_in before = flat_map mapped_of_line before

abbrev pub data_in : List Line → List ℕ
data_in before = flat_map data_of_line before

-- of these lines, which are of version 1, all was gathered, and from the start on the trees of the devices that are
-- over are written, and then what is there of the tree of the open one
pub record HasGathered (before : List Line) (s : Devices) (start now : DraftState) : Type 0 where
  pub version : is_shared before ≡ false
  pub leaves : leaf_number before ≡ 0
  pub begin : start.place ≡ 1
  pub behind : DraftState
  pub written : Wrote (device_trees 1 (whole_devices before)) start behind
  pub growing : IsOpen (open_device before) (piece_end before) (unmapped before) s.growing behind now
  pub roots : entries_of (λ (r : Root). r.0) s.roots.items ≡ device_roots 1 (whole_devices before)
  pub details : entries_of (λ (d : Details). details_code d.mapped d.transaction d.created d.snapped) s.details.items
      ≡ device_details (whole_devices before ++ open_device before)
  pub roots_fit : All (λ (item : ℕ × Root). nat_lt item.1.0 (2 ^ 64) ≡ true) s.roots.items
  pub details_fit : All (λ (item : ℕ × Details). (nat_lt item.1.mapped (2 ^ 64)
      && (nat_lt item.1.transaction (2 ^ 64) && (nat_lt item.1.created (2 ^ 32) && nat_lt item.1.snapped (2 ^ 32)))) ≡ true) s.details.items
  pub counted : HasCounted s.counts.counts (data_in before)
  pub size : s.counts.counts.size ≡ data_blocks_of before
  pub small : data_blocks_of before ≤ 2 ^ 40
  pub total : s.counts.total + unmapped before ≡ sum (mapped_in before)
  pub trees : s.trees ≡ min (sum_by (need_tree 8) (mapped_in before)) (2 ^ 64 - 1)
  pub number : length s.details.items ≡ length (mapped_in before)
  pub place : behind.place + open_need (open_device before) ≡ 1 + sum_by (need_tree 8) (mapped_in before)

-- what was gathered of some lines, whose need has room on the device
pub record Gathered (s : Devices) (now : DraftState) : Type 0 where
  pub before : List Line
  pub start : DraftState
  pub gathered : HasGathered before s start now
  pub room : ℕ
  pub need : thin_need_so_far room before ≤ room
  pub most : room ≤ MAX_META_BLOCKS
  pub there : room ≤ now.device.blocks

-- the open device has all its mappings
pub record CanEnd (s : Devices) (now : DraftState) : Type 0 where
  pub so_far : Gathered s now
  pub full : unmapped so_far.before ≡ 0

-- a run may follow
pub record CanTake (s : Devices) (r : Run) (now : DraftState) : Type 0 where
  pub so_far : Gathered s now
  pub follows : MayFollow so_far.before r

-- the need of a pool whose devices' trees have so many nodes together, by the number of devices
unfoldable pub need_of_trees : ℕ → ℕ → ℕ → ℕ → ℕ → ℕ
need_of_trees trees number data_blocks overflows room =
    1 + (trees + (need_tree 8 number + (need_tree 24 number
    + (bitmaps_for data_blocks + (need_tree 16 (bitmaps_for data_blocks) + (need_tree 4 overflows + need_meta_map room))))))
