-- What is gathered of the lines of a pool's text of version 2, the newest first, and what of it is written.
-- The need of a pool by the numbers that one keeps who doesn't keep its devices.
-- What was gathered of all lines of a text: a shape, whose leaves and trees are written.
use Rattle.std.specs.Prelude.{◌≡◌, ℕ, ◌+◌, ◌-◌, ◌*◌, ◌^◌, ◌≤◌, ◌<◌, min, true, false, nat_lt, ◌&&◌, Bool, List, [], ◌∷◌, ◌++◌, length, map, sum, sum_by, Option, None, Some}
use Rattle.std.specs.List.{All, AllByRecursion, flat_map}
use Rattle.pd_kinds.specs.declared.limits.TheConstants.{MAX_META_BLOCKS}
use Rattle.pd_kinds.specs.Field.{details_code}
use Rattle.pd_kinds.specs.Bitmap.{bitmaps_for}
use Rattle.pd_grammar.specs.Need.{nodes_for, data_of_line, need_tree}
use Rattle.pd_grammar.specs.Texts.{has_ended}
use Rattle.pd_grammar.specs.ThinText.{Line, pool_format, Run, data_blocks_of, has_device, is_shared, leaf_number, least_of, map_line, number_in, piece_end, unmapped}
use Rattle.pd_grammar.specs.Lawful.{IsLawfulPool}
use Rattle.pd_grammar.specs.ThinText as text
use Rattle.pd_laid.specs.LaidThin.{details_items, data_counts, devices_at, shared_items}
use Rattle.pd_laid.specs.Shape.{ShapeDevice, uses_of_piece, IsShape, ThinShape, pool_of, uses_of}
use Rattle.pd_laid.specs.PoolText.{LeafCount, Told, leaves_of_ended, leaves_of_told, need_of_leaves, own_number, shape_need_so_far, told_devices, mappings_of_runs}
use Rattle.pd_laid.proofs.LeafRuns.{HaveTold, IsLeaf}
use Rattle.pd_value.specs.declared.thin.Root.{Root}
use Rattle.pd_value.specs.declared.thin.Details.{Details}
use Rattle.pd_node.specs.Items.{entries_of}
use Rattle.pd_draft.specs.Closed.{DraftState, Wrote}
use Rattle.pd_count.specs.Counted.{HasCounted, Counted, count_of}
use Rattle.pd_texts.specs.ThinState.{IsRunLine, IsUseLine}
use Rattle.pd_devices.specs.SharedGrowth.{Grown, HasHeld, AreHeld}
use Rattle.pd_devices.specs.Told.{Open, nothing_open, open_leaf, open_device, opened, open_runs, ended_leaf, ended_device, whole_leaves, whole_devices, leaves_told, leaf_items}
use Rattle.pd_devices.specs.declared.shared_devices.SharedDevices.{SharedDevices}
use Rattle.pd_devices.specs.declared.growing.Growing.{Growing}
use Rattle.pd_devices.specs.declared.growing.NeedCounts.{NeedCounts}
use Rattle.pd_laws_laid.specs.Shared.{device_roots, leaves_and_trees, trees_need, used_times}

-- a leaf is open: it comes before all devices, and has 1 to 252 mappings with those that are to come
pub record IsLeafOpen (before : List Line) (runs : List Run) : Type 0 where
  pub none : has_device before ≡ false
  pub runs_are : AreHeld (data_blocks_of before) 0 (piece_end before) runs
  pub some : 1 ≤ length (mappings_of_runs runs) + unmapped before
  pub few : length (mappings_of_runs runs) + unmapped before ≤ 252

-- a device is open: the leaves of its pieces that are over are written
pub record IsDeviceOpen (before : List Line) (d : ShapeDevice) (runs : List Run) (o : Growing) (from to : DraftState) : Type 0 where
  pub has : has_device before ≡ true
  pub low : ℕ
  pub grown : Grown (leaf_items (whole_leaves before)) d low o from to
  pub runs_are : AreHeld (data_blocks_of before) low (piece_end before) runs

-- what isn't over
abbrev pub IsOpen : List Line → Open → Option Growing → DraftState → DraftState → Type 0
IsOpen before nothing_open None from to = (from ≡ to) × (unmapped before ≡ 0)
IsOpen before nothing_open (Some o) from to = ⊥
IsOpen before (open_leaf runs) None from to = (from ≡ to) × IsLeafOpen before runs
IsOpen before (open_leaf runs) (Some o) from to = ⊥
IsOpen before (open_device d runs) None from to = ⊥
IsOpen before (open_device d runs) (Some o) from to = IsDeviceOpen before d runs o from to

-- What the need goes by is told of the devices that are over, the newest first, as it is of these:
pub record AreTold (told : List Told) (devices : List ShapeDevice) : Type 0 where
  pub trees : sum_by need_of_leaves (map leaves_of_ended told) ≡ trees_need devices
  pub number : length told ≡ length devices

-- and of the open one: its held runs are one number more
abbrev pub number_of : List Run → List ℕ
number_of [] = []
number_of (r ∷ runs) = number_in (r ∷ runs) ∷ []

abbrev pub has_runs : List Run → Bool
has_runs [] = false
has_runs (r ∷ runs) = true

pub record IsTold (told : Told) (d : ShapeDevice) (runs : List Run) : Type 0 where
  pub rest : List ℕ
  pub in_run : told.in_run ≡ has_runs runs
  pub own : told.own ≡ number_of runs ++ rest
  pub spread : sum_by (λ n. nodes_for 252 n) rest ≡ sum_by (λ n. nodes_for 252 n) (flat_map own_number d.pieces)
  pub pieces : length rest + told.uses ≡ length d.pieces
  pub uses : told.uses ≡ length (flat_map uses_of_piece d.pieces)

pub record AreToldWith (told : List Told) (devices : List ShapeDevice) (d : ShapeDevice) (runs : List Run) : Type 0 where
  pub newest : Told
  pub older : List Told
  pub both : told ≡ newest ∷ older
  pub over : AreTold older devices
  pub last : IsTold newest d runs

abbrev pub AreAllTold : List Told → List ShapeDevice → Open → Type 0
AreAllTold told devices nothing_open = AreTold told devices
AreAllTold told devices (open_leaf runs) = AreTold told devices
AreAllTold told devices (open_device d runs) = AreToldWith told devices d runs

-- the leaves of devices as far as lines tell them: where none is open, all are over
abbrev pub leaves_so_far : Open → List Told → List LeafCount
leaves_so_far nothing_open told = map leaves_of_ended told
leaves_so_far (open_leaf runs) told = map leaves_of_ended told
leaves_so_far (open_device d runs) told = leaves_of_told false told

-- the mappings of an open leaf that are to come
abbrev pub leaf_left : Open → ℕ → ℕ
leaf_left nothing_open left = 0
leaf_left (open_leaf runs) left = left
leaf_left (open_device d runs) left = 0

-- what was counted: the data blocks, each leaf's once, and the uses of leaves
pub record HasCounts (room : ℕ) (before : List Line) (s : SharedDevices) : Type 0 where
  pub counted : HasCounted s.counts.counts (flat_map data_of_line before)
  pub size : s.counts.counts.size ≡ data_blocks_of before
  pub small : data_blocks_of before ≤ 2 ^ 40
  pub total : s.counts.total + leaf_left (opened before) (unmapped before) ≤ 252 * leaf_number before + sum_by (λ (t : Told). sum t.own) (told_devices before)
  pub uses_counted : HasCounted s.uses.counts (text.uses_of before)
  pub uses_size : s.uses.counts.size ≡ room
  pub uses_total : s.uses.total ≡ sum_by (λ (t : Told). t.uses) (told_devices before)
  pub uses_within : AllByRecursion (λ n. (n < leaf_number before) × (n < room)) (text.uses_of before)

-- the leaves that are over
pub record HasLeaves (before : List Line) (s : SharedDevices) : Type 0 where
  pub number : s.leaves ≡ leaf_number before
  pub told : HaveTold before (whole_leaves before ++ ended_leaf (opened before))
  pub lawful : AllByRecursion (IsLeaf (data_blocks_of before)) (whole_leaves before)
  pub firsts : s.firsts.items ≡ map least_of (whole_leaves before)
  pub alone : has_device before ≡ false → whole_devices before ≡ []

-- what is listed of the devices
pub record HasListed (before : List Line) (s : SharedDevices) : Type 0 where
  pub roots : entries_of (λ (r : Root). r.0) s.roots.items ≡ device_roots (leaf_items (whole_leaves before)) (1 + length (leaves_told (whole_leaves before))) (whole_devices before)
  pub details : entries_of (λ (d : Details). details_code d.mapped d.transaction d.created d.snapped) s.details.items
      ≡ details_items (whole_devices before ++ ended_device (opened before))
  pub roots_fit : All (λ (item : ℕ × Root). nat_lt item.1.0 (2 ^ 64) ≡ true) s.roots.items
  pub details_fit : All (λ (item : ℕ × Details). (nat_lt item.1.mapped (2 ^ 64)
      && (nat_lt item.1.transaction (2 ^ 64) && (nat_lt item.1.created (2 ^ 32) && nat_lt item.1.snapped (2 ^ 32)))) ≡ true) s.details.items
  pub trees : s.trees ≡ min (trees_need (whole_devices before)) (2 ^ 64 - 1)
  pub number : length s.details.items ≡ length (told_devices before)
  pub told : AreAllTold (told_devices before) (whole_devices before) (opened before)
  pub so_far : leaves_of_told (has_ended pool_format before) (told_devices before) ≡ leaves_so_far (opened before) (told_devices before)

-- of these lines all was gathered, where there are so many metadata blocks, and what is over of them is written from the
-- start on
pub record HasGathered (room : ℕ) (before : List Line) (s : SharedDevices) (start now : DraftState) : Type 0 where
  pub version : is_shared before ≡ true
  pub begin : start.place ≡ 1
  pub counts : HasCounts room before s
  pub leaves : HasLeaves before s
  pub listed : HasListed before s
  pub held : HasHeld (open_runs (opened before)) s.held
  pub behind : DraftState
  pub written : Wrote (leaves_and_trees (leaves_told (whole_leaves before)) (whole_devices before)) start behind
  pub growing : IsOpen before (opened before) s.growing behind now
  pub place : behind.place ≡ 1 + (length (whole_leaves before) + trees_need (whole_devices before))

-- what was gathered of some lines, whose need has room on the device
pub record Gathered (s : SharedDevices) (now : DraftState) : Type 0 where
  pub room : ℕ
  pub before : List Line
  pub start : DraftState
  pub gathered : HasGathered room before s start now
  pub need : shape_need_so_far room before ≤ room
  pub most : room ≤ MAX_META_BLOCKS
  pub there : room ≤ now.device.blocks

-- the last leaf or device has all its mappings
pub record CanEnd (s : SharedDevices) (now : DraftState) : Type 0 where
  pub so_far : Gathered s now
  pub full : unmapped so_far.before ≡ 0

-- a use of a leaf may follow
pub record CanUse (s : SharedDevices) (number : ℕ) (now : DraftState) : Type 0 where
  pub so_far : Gathered s now
  pub follows : IsUseLine so_far.before number

-- a run may follow, and with it there is room, too
pub record CanTake (s : SharedDevices) (r : Run) : Type 0 where
  pub now : DraftState
  pub so_far : Gathered s now
  pub follows : IsRunLine so_far.before r
  pub fits : shape_need_so_far so_far.room (map_line r ∷ so_far.before) ≤ so_far.room

-- a run may follow, and whether there is room isn't known
pub record CanLook (s : SharedDevices) (r : Run) : Type 0 where
  pub now : DraftState
  pub so_far : Gathered s now
  pub follows : IsRunLine so_far.before r

unfoldable pub need_of_parts : NeedCounts → ℕ → ℕ
need_of_parts p room =
    1 + (p.leaves + (p.trees + p.begun + (need_tree 8 p.devices + (need_tree 24 p.devices
    + (bitmaps_for p.blocks + (need_tree 16 (bitmaps_for p.blocks) + (need_tree 4 p.over
    + (1 + (bitmaps_for room + need_tree 4 p.often)))))))))

-- what a caller is given: the roots and the details of the devices, the counts of the data blocks, how many leaves there
-- are, and how often each is used
abbrev pub roots_of : SharedDevices → List (ℕ × Root)
roots_of s = s.roots.items

abbrev pub details_of : SharedDevices → List (ℕ × Details)
details_of s = s.details.items

abbrev pub counts_of : SharedDevices → Counted
counts_of s = s.counts.counts

abbrev pub leaves_of : SharedDevices → ℕ
leaves_of s = s.leaves

abbrev pub uses_counted : SharedDevices → Counted
uses_counted s = s.uses.counts

-- these are of the shape, and from the start on its leaves and the trees of its devices are written
pub record IsGatheredShape (w : ThinShape) (s : SharedDevices) (start now : DraftState) : Type 0 where
  pub shape : IsShape w
  pub lawful : IsLawfulPool (pool_of w)
  pub begin : start.place ≡ 1
  pub written : Wrote (leaves_and_trees w.leaves w.devices) start now
  pub roots : entries_of (λ (r : Root). r.0) (roots_of s) ≡ device_roots (shared_items w) (devices_at w) w.devices
  pub details : entries_of (λ (d : Details). details_code d.mapped d.transaction d.created d.snapped) (details_of s) ≡ details_items w.devices
  pub roots_fit : All (λ (item : ℕ × Root). nat_lt item.1.0 (2 ^ 64) ≡ true) (roots_of s)
  pub details_fit : All (λ (item : ℕ × Details). (nat_lt item.1.mapped (2 ^ 64)
      && (nat_lt item.1.transaction (2 ^ 64) && (nat_lt item.1.created (2 ^ 32) && nat_lt item.1.snapped (2 ^ 32)))) ≡ true) (details_of s)
  pub counted : count_of (counts_of s) ≡ data_counts w
  pub size : (counts_of s).size ≡ w.data_blocks
  pub leaves : leaves_of s ≡ length w.leaves
  pub uses : (number : ℕ) → count_of (uses_counted s) number ≡ used_times (flat_map uses_of w.devices) number
