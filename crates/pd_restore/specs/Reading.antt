-- A pool's text of either version that is read and restored, line by line; of lines the newest comes first.
-- The parts that a pool's superblock names.
-- A pool that is being written: its devices, and what stands behind them.
-- What is gathered of a pool's text of version 1.
use Rattle.std.specs.Prelude.{◌≡◌, ℕ, ◌^◌, ◌≤◌, true, nat_lt, ◌&&◌, List, ◌++◌, length, ◌<◌, Bool, false, [], ◌∷◌, Option}
use Rattle.std.specs.List.{All, flat_map}
use Rattle.pd_kinds.specs.declared.limits.TheConstants.{MAX_META_BLOCKS}
use Rattle.pd_kinds.specs.Field.{details_code}
use Rattle.pd_grammar.specs.Lawful.{IsLawfulPool}
use Rattle.pd_grammar.specs.Texts.{has_ended}
use Rattle.pd_grammar.specs.ThinText.{Line, end_line, pool_format}
use Rattle.pd_laid.specs.LaidThin.{pool_fields, data_counts, details_items, devices_at, pool_parts, meta_map_blocks, shared_items, laid_shape}
use Rattle.pd_laid.specs.Shape.{ThinShape, IsShape, pool_of, uses_of}
use Rattle.pd_laid.specs.Laid.{written_from, laid_number}
use Rattle.pd_laid.specs.PoolText.{shape_need, IsLawfulShape, MeansPoolShape, pool_need_so_far}
use Rattle.pd_value.specs.declared.thin.Root.{Root}
use Rattle.pd_value.specs.declared.thin.Details.{Details}
use Rattle.pd_node.specs.Items.{entries_of}
use Rattle.pd_draft.specs.Closed.{DraftState, Wrote}
use Rattle.pd_count.specs.Counted.{Counted, count_of}
use Rattle.pd_texts.specs.declared.reader.TextReader.{TextReader}
use Rattle.pd_texts.specs.declared.thin_text.ThinLine.{ThinLine}
use Rattle.pd_texts.specs.declared.thin_state.ThinState.{ThinState}
use Rattle.pd_texts.specs.Reader.{in_order, AreReadSoFar, ReadsOn, LeavesOf, IsWhole}
use Rattle.pd_texts.specs.ThinState.{ThinStands}
use Rattle.pd_devices.specs.declared.devices.Devices.{Devices}
use Rattle.pd_devices.specs.Gathered.{HasGathered}
use Rattle.pd_restoring.specs.declared.fault.RestoreFault.{RestoreFault}
use Rattle.pd_restoring.specs.Reading.{NoneAbove}
use Rattle.pd_restoring.specs.declared.fault.RestoreFault.TheVariants as r
use Rattle.pd_restore.specs.declared.pool.PoolRoots.{PoolRoots}
use Rattle.pd_laws_laid.specs.Shared.{used_times, device_roots, leaves_and_trees}

-- these are the roots of a pool where there is so much room
pub record AreParts (w : ThinShape) (room : ℕ) (parts : PoolRoots) : Type 0 where
  pub mapping_root : parts.mapping_root ≡ (pool_fields w room).mapping_root
  pub details_root : parts.details_root ≡ (pool_fields w room).details_root
  pub data_map : parts.data_map ≡ (pool_fields w room).data_map
  pub meta_map : parts.meta_map ≡ (pool_fields w room).meta_map

-- what is known of devices whose trees are written: their roots and details, how often each data block is told, how many shared
-- leaves there are, and how often each is used
pub record Known : Type 0 where
  pub roots : List (ℕ × Root)
  pub details : List (ℕ × Details)
  pub counts : Counted
  pub leaves : ℕ
  pub uses : Counted

-- the leaves and the trees of a pool are written, and that is known of them
pub record HasDevices (w : ThinShape) (s : Known) (start now : DraftState) : Type 0 where
  pub shape : IsShape w
  pub lawful : IsLawfulPool (pool_of w)
  pub begin : start.place ≡ 1
  pub written : Wrote (leaves_and_trees w.leaves w.devices) start now
  pub roots : entries_of (λ (r : Root). r.0) s.roots ≡ device_roots (shared_items w) (devices_at w) w.devices
  pub details : entries_of (λ (d : Details). details_code d.mapped d.transaction d.created d.snapped) s.details ≡ details_items w.devices
  pub roots_fit : All (λ (item : ℕ × Root). nat_lt item.1.0 (2 ^ 64) ≡ true) s.roots
  pub details_fit : All (λ (item : ℕ × Details). (nat_lt item.1.mapped (2 ^ 64)
      && (nat_lt item.1.transaction (2 ^ 64) && (nat_lt item.1.created (2 ^ 32) && nat_lt item.1.snapped (2 ^ 32)))) ≡ true) s.details
  pub counted : count_of s.counts ≡ data_counts w
  pub size : s.counts.size ≡ w.data_blocks
  pub leaves : s.leaves ≡ length w.leaves
  pub uses : (number : ℕ) → count_of s.uses number ≡ used_times (flat_map uses_of w.devices) number

-- what stands behind them has room on the device
pub record CanWriteParts (s : Known) (room : ℕ) (now : DraftState) : Type 0 where
  pub shape : ThinShape
  pub start : DraftState
  pub devices : HasDevices shape s start now
  pub need : shape_need shape room ≤ room
  pub most : room ≤ MAX_META_BLOCKS
  pub there : room ≤ now.device.blocks
  pub used : s.leaves ≤ s.uses.size

-- the blocks of a pool from block 1 on
abbrev pub shape_behind : ThinShape → ℕ → List (List ℕ)
shape_behind w room = written_from 1 (pool_parts w ++ meta_map_blocks w room)

-- What it is that of some lines all was gathered, where there are so many metadata blocks, and what is over of them is
-- written from one stand to another
abbrev pub Gathers : Type 0 → Type 1
Gathers G = ℕ → List Line → G → DraftState → DraftState → Type 0

-- these lines were gathered, and have room on the device
pub record HasRoom {G : Type 0} (Has : Gathers G) (before : List Line) (room : ℕ) (s : G) (start now : DraftState) : Type 0 where
  pub gathered : Has room before s start now
  pub lines : AreReadSoFar pool_format before
  pub need : pool_need_so_far room before ≤ room
  pub most : room ≤ MAX_META_BLOCKS
  pub there : room ≤ now.device.blocks

-- these lines were read and gathered, and have room
pub record Reading {G : Type 0} (Has : Gathers G) (before : List Line) (room : ℕ) (text : TextReader ThinState ThinLine) (s : G) (start now : DraftState) : Type 0 where
  pub reads : ReadsOn pool_format ThinStands before text
  pub later : 2 ≤ length before
  pub so_far : HasRoom Has before room s start now
  pub above : NoneAbove pool_need_so_far room before

-- some lines were
pub record CanRead {G : Type 0} (Has : Gathers G) (room : ℕ) (text : TextReader ThinState ThinLine) (s : G) (now : DraftState) : Type 0 where
  pub before : List Line
  pub start : DraftState
  pub so_far : Reading Has before room text s start now

-- this line was read after these ones
pub record Follows {G : Type 0} (Has : Gathers G) (before : List Line) (room : ℕ) (s : G) (line : Line) (start now : DraftState) : Type 0 where
  pub so_far : HasRoom Has before room s start now
  pub later : 2 ≤ length before
  pub lines : AreReadSoFar pool_format (line ∷ before)

-- a line may be taken
pub record CanTake {G : Type 0} (Has : Gathers G) (room : ℕ) (s : G) (line : Line) (now : DraftState) : Type 0 where
  pub before : List Line
  pub start : DraftState
  pub follows : Follows Has before room s line start now

-- these are all lines, with the last one, and they have room
pub record HasReadAll {G : Type 0} (Has : Gathers G) (lines : List Line) (room : ℕ) (s : G) (start now : DraftState) : Type 0 where
  pub all : HasRoom Has lines room s start now
  pub ended : has_ended pool_format lines ≡ true
  pub above : NoneAbove pool_need_so_far room lines

-- all lines were gathered
pub record CanWrite {G : Type 0} (Has : Gathers G) (room : ℕ) (s : G) (now : DraftState) : Type 0 where
  pub lines : List Line
  pub start : DraftState
  pub all : HasReadAll Has lines room s start now

-- the lines mean a shape, which has room and is written but for its superblock, and these are the parts that this one names
pub record WritesParts (lines : List Line) (room : ℕ) (start now : DraftState) (parts : PoolRoots) : Type 0 where
  pub shape : ThinShape
  pub means : MeansPoolShape (in_order lines []) shape
  pub lawful : IsLawfulShape shape
  pub fits : laid_number (laid_shape shape room) ≤ room
  pub wrote : Wrote (shape_behind shape room) start now
  pub named : AreParts shape room parts

-- one step after these lines: a line more, or the end
abbrev pub Steps : {G : Type 0} → Gathers G → Bool → List Line → ℕ → TextReader ThinState ThinLine → Option (List ℕ) → TextReader ThinState ThinLine → Option (List ℕ) → G → DraftState → DraftState → Type 0
Steps Has true before room old was text left s start now = (line : Line) × (Reading Has (line ∷ before) room text s start now
    × ((t : List ℕ) → LeavesOf pool_format t before old was → LeavesOf pool_format t (line ∷ before) text left))
Steps Has false before room old was text left s start now = HasReadAll Has (end_line ∷ before) room s start now
    × ((t : List ℕ) → LeavesOf pool_format t before old was → IsWhole pool_format t (end_line ∷ before) left)

-- after these lines all others were gathered, which are those of the texts in question
pub record EndsAll {G : Type 0} (Has : Gathers G) (before : List Line) (room : ℕ) (IsOf : List ℕ → Type 0) (left : Option (List ℕ)) (s : G) (start now : DraftState) : Type 0 where
  pub lines : List Line
  pub later : List Line
  pub front : in_order lines [] ≡ in_order before later
  pub all : HasReadAll Has lines room s start now
  pub told : (t : List ℕ) → IsOf t → IsWhole pool_format t lines left

-- from the lines before some others were read
pub record ReadsLinesOn {G : Type 0} (Has : Gathers G) (before : List Line) (room : ℕ) (old : TextReader ThinState ThinLine) (was : Option (List ℕ)) (text : TextReader ThinState ThinLine)
    (left : Option (List ℕ)) (s : G) (start now : DraftState) : Type 0 where
  pub lines : List Line
  pub later : List Line
  pub front : (others : List Line) → in_order lines others ≡ in_order before (later ++ others)
  pub so_far : Reading Has lines room text s start now
  pub told : (t : List ℕ) → LeavesOf pool_format t before old was → LeavesOf pool_format t lines text left

-- a fault that says that so much is needed, and there is less
abbrev pub IsShort : ℕ → ℕ → RestoreFault → Type 0
IsShort room need (r.NoRoom needed blocks) = (needed ≡ need) × ((blocks ≡ room) × (room < need))
IsShort room need r.Memory = ⊥
IsShort room need r.Source = ⊥
IsShort room need r.Device = ⊥
IsShort room need (r.Text fault) = ⊥

-- the same, or a fault that says nothing of the room
abbrev pub IsOver : ℕ → ℕ → RestoreFault → Type 0
IsOver room need (r.NoRoom needed blocks) = (needed ≡ need) × ((blocks ≡ room) × (room < need))
IsOver room need r.Memory = Unit {0}
IsOver room need r.Source = ⊥
IsOver room need r.Device = Unit {0}
IsOver room need (r.Text fault) = ⊥

-- which faults the first ones are
abbrev pub IsNoRoom : RestoreFault → Type 0
IsNoRoom (r.NoRoom need blocks) = Unit {0}
IsNoRoom r.Memory = ⊥
IsNoRoom r.Source = ⊥
IsNoRoom r.Device = ⊥
IsNoRoom (r.Text fault) = ⊥

-- a line is refused, or there is no room
abbrev pub IsOfText : RestoreFault → Type 0
IsOfText (r.NoRoom need blocks) = Unit {0}
IsOfText r.Memory = ⊥
IsOfText r.Source = ⊥
IsOfText r.Device = ⊥
IsOfText (r.Text fault) = Unit {0}

-- it is the same whatever the room is
abbrev pub HasUnshared : ℕ → List Line → Devices → DraftState → DraftState → Type 0
HasUnshared room before s start now = HasGathered before s start now
