-- The walk over a pool's trees that meets no node a third time.
-- How often nodes were met.
-- Which device uses a data block, and how many data blocks a device alone uses.
-- Tallies over the devices that a walk goes through.
use Rattle.std.specs.Prelude.{ℕ, slice_index, ◌≡◌, suc, ◌+◌, ◌-◌, ◌^◌, ◌<◌, ◌≤◌, min, cond, Bool, ◌==◌, ◌&&◌, nat_lt, List, [], ◌∷◌, ◌++◌, map, length, filter, slice_set, Option, None, Some}
use Rattle.std.specs.List.{AllByRecursion}
use Rattle.pd_kinds.specs.declared.superblocks.ThinSuper.{ThinSuper}
use Rattle.pd_kinds.specs.Graph.{block_at}
use Rattle.pd_kinds.specs.Meaning.{Mapping}
use Rattle.pd_value.specs.declared.thin.BlockTime.{BlockTime}
use Rattle.pd_count.specs.Counted.{Counted, count_of}
use Rattle.pd_tree.specs.Below.{items_from, nodes_below}
use Rattle.pd_meaning_thin.specs.declared.devices.DeviceRow.{DeviceRow}
use Rattle.pd_meaning_thin.specs.Given.{super_rows}
use Rattle.pd_meaning_thin.specs.Runs.{block_time_of, mapping_of}
use Rattle.pd_meaning_thin.specs.Walk.{IsProperTree}
use Rattle.pd_meaning_thin.specs.Marks.{occurs}
use Rattle.pd_uses.specs.declared.list_walk.Meets.{Meets}
use Rattle.pd_uses.specs.declared.hits.DataUse.{DataUse}
use Rattle.pd_uses.specs.Uses.{row_uses, number_of_uses, rows_told, use_by, uses_told}
use Rattle.pd_uses.specs.declared.tallies.Tallies.{Tallies}

-- how often a block was met, up to twice
abbrev pub times_met : Meets → ℕ → ℕ
times_met meets b = slice_index meets.counts.items b

-- the uses by the device at a place among the devices: that place, and the data block
abbrev pub placed : ℕ → List DataUse → List (ℕ × ℕ)
placed place uses = map (λ (one : DataUse). (place, one.block)) uses

-- those by some rows, the first of which has this place
abbrev pub rows_placed : List (List ℕ) → ℕ → List DeviceRow → List (ℕ × ℕ)
rows_placed image place [] = []
rows_placed image place (row ∷ rows) = placed place (row_uses image row) ++ rows_placed image (suc place) rows

-- the uses among what is told where so many devices began before
abbrev pub placed_told : ℕ → List (Option DataUse) → List (ℕ × ℕ)
placed_told n [] = []
placed_told n (None ∷ told) = placed_told (suc n) told
placed_told n (Some one ∷ told) = (n - 1, one.block) ∷ placed_told n told

-- how many devices have begun then
abbrev pub begun : ℕ → List (Option DataUse) → ℕ
begun n [] = n
begun n (None ∷ told) = begun (suc n) told
begun n (Some one ∷ told) = begun n told

-- how often a block is used, and how often by the device at a place
abbrev pub times : List (ℕ × ℕ) → ℕ → ℕ
times uses b = length (filter (λ (one : ℕ × ℕ). one.1 == b) uses)

abbrev pub times_at : ℕ → List (ℕ × ℕ) → ℕ → ℕ
times_at place uses b = length (filter (λ (one : ℕ × ℕ). (one.0 == place) && (one.1 == b)) uses)

-- whether a block below a size is used once
abbrev pub is_alone : ℕ → List (ℕ × ℕ) → ℕ → Bool
is_alone size uses b = nat_lt b size && (times uses b == 1)

-- how many uses by the device at a place are of blocks of a kind
abbrev pub number_at : ℕ → (ℕ → Bool) → List (ℕ × ℕ) → ℕ
number_at place kind uses = length (filter (λ (one : ℕ × ℕ). (one.0 == place) && kind one.1) uses)

-- what is noted of a block: 2^32 - 1 where it is used twice or more; else 0, or the place of its one user and 1
pub record IsUser (uses : List (ℕ × ℕ)) (b user : ℕ) : Type 0 where
  pub several : user ≡ 2 ^ 32 - 1 → 2 ≤ times uses b
  pub total : user < 2 ^ 32 - 1 → times uses b ≡ min user 1
  pub one : user < 2 ^ 32 - 1 → (place : ℕ) → times_at place uses b ≡ cond (user == suc place) 1 0

-- so it is noted of each block, and of each device how many blocks it alone uses, and once
pub record IsTallied (uses : List (ℕ × ℕ)) (users : Counted) (tallies : List ℕ) : Type 0 where
  pub user : (b : ℕ) → b < users.size → IsUser uses b (count_of users b)
  pub tally : (place : ℕ) → slice_index tallies place ≡ number_at place (is_alone users.size uses) uses

-- a tally is one more, which stays at the end of its type, or one less
abbrev pub raised_at : ℕ → List ℕ → List ℕ
raised_at place tallies = slice_set tallies place (min (slice_index tallies place + 1) (2 ^ 64 - 1))

abbrev pub lowered_at : ℕ → List ℕ → List ℕ
lowered_at place tallies = slice_set tallies place (slice_index tallies place - 1)

-- what was told was tallied, and nothing else
pub record HasTallied (start : Tallies) (told : List (Option DataUse)) (now : Tallies) : Type 0 where
  pub size : now.users.size ≡ start.users.size
  pub devices : length now.exclusive.items ≡ begun 0 told
  pub tallied : IsTallied (placed_told 0 told) now.users now.exclusive.items

-- these are the tallies of the devices of the pool with this superblock
abbrev pub AreExclusive : List (List ℕ) → ThinSuper → List ℕ → Type 0
AreExclusive image s tallies =
    (place : ℕ) → slice_index tallies place ≡ number_at place (is_alone s.data_map.blocks (rows_placed image 0 (super_rows image s))) (rows_placed image 0 (super_rows image s))

-- what a walk tells of the entries of a device's tree
abbrev pub told_of : ℕ → List (ℕ × BlockTime) → List (Option DataUse)
told_of id items = map Some (map (use_by id) (map mapping_of items))

-- the mappings of a leaf; an inner node has none
abbrev pub mappings_at : List (List ℕ) → ℕ → List Mapping
mappings_at image b = map mapping_of (items_from 8 block_time_of (block_at image b) 0)

-- each data block of a node was told so often, at least
abbrev pub IsTold : List (List ℕ) → List (Option DataUse) → ℕ → ℕ → Type 0
IsTold image told n b = AllByRecursion (λ (m : Mapping). n ≤ number_of_uses (uses_told told) m.data_block) (mappings_at image b)

-- what stands below a node was told as often as that was met
abbrev pub IsToldBelow : List (List ℕ) → List (Option DataUse) → Meets → ℕ → Type 0
IsToldBelow image told meets b = (c : ℕ) → 1 ≤ occurs c (nodes_below 8 image 63 b) → IsTold image told (times_met meets b) c

-- some of what was left was told, or was used twice before, so that it changes no tally: the nodes and what is told that
-- were left, and that are left now. A node that isn't left any more was met once more at the most
pub record Walks (image : List (List ℕ)) (nodes nodes' : List ℕ) (left left' : List (Option DataUse)) (meets meets' : Meets) (old new : Tallies) : Type 0 where
  pub told : List (Option DataUse)
  pub parts : left ≡ told ++ left'
  pub fewer : (b : ℕ) → occurs b nodes' ≤ occurs b nodes
  pub counts : (b : ℕ) → times_met meets' b + occurs b nodes' ≤ times_met meets b + occurs b nodes
  pub tallied : ((b : ℕ) → occurs b nodes ≤ 1) → (start : Tallies) (before more : List (Option DataUse)) → ((b : ℕ) → 1 ≤ occurs b nodes → IsToldBelow image before meets b)
      → HasTallied start (before ++ more) old → HasTallied start (before ++ (more ++ told)) new

-- some of the rows that were left were tallied, if each node is met once in each of their trees
pub record WalksRows (image : List (List ℕ)) (rows rows' : List DeviceRow) (meets meets' : Meets) (old new : Tallies) : Type 0 where
  pub told : List (Option DataUse)
  pub parts : rows_told image rows ≡ told ++ rows_told image rows'
  pub proper : (n : ℕ) → AllByRecursion (λ (row : DeviceRow). IsProperTree image n row.root) rows → AllByRecursion (λ (row : DeviceRow). IsProperTree image n row.root) rows'
  pub tallied : (n : ℕ) → AllByRecursion (λ (row : DeviceRow). IsProperTree image n row.root) rows → (start : Tallies) (before : List (Option DataUse))
      → ((b : ℕ) → IsToldBelow image before meets b) → HasTallied start before old
      → ((b : ℕ) → IsToldBelow image (before ++ told) meets' b) × HasTallied start (before ++ told) new

-- the rows were tallied, from no device on
abbrev pub TalliesRows : List (List ℕ) → List DeviceRow → Tallies → Tallies → Type 0
TalliesRows image rows old new =
    (n : ℕ) → AllByRecursion (λ (row : DeviceRow). IsProperTree image n row.root) rows → (start : Tallies) → HasTallied start [] old → HasTallied start (rows_told image rows) new
