-- What is left of the runs of a device's mappings.
-- The values of a pool's trees.
-- Runs of mappings, as they are given.
-- What is left of the devices of a pool.
use Rattle.std.specs.Prelude.{ℕ, ◌/◌, ◌%◌, ◌^◌, ◌≡◌, suc, ◌+◌, ◌-◌, min, Bool, ◌==◌, ◌&&◌, List, [], ◌∷◌, map, Option, Some, None, ◌*◌, if◌then◌else◌, ◌++◌, length}
use Rattle.std.specs.List.{zip}
use Rattle.pd_kinds.specs.Meaning.{Mapping}
use Rattle.pd_grammar.specs.ThinText.{joined_runs, mappings_from}
use Rattle.pd_grammar.specs.ThinText as text
use Rattle.pd_value.specs.declared.thin.BlockTime.{BlockTime}
use Rattle.pd_value.specs.declared.thin.Details.{Details}
use Rattle.pd_value.specs.declared.thin.Root.{Root}
use Rattle.pd_tree.specs.Below.{items_below}
use Rattle.pd_tree.specs.Cursor.{cursor_items, cursor_nodes, cursor_number, root_of}
use Rattle.pd_meaning_thin.specs.declared.joined.OpenRun.{OpenRun}
use Rattle.pd_meaning_thin.specs.declared.joined.Run.{Run}
use Rattle.pd_meaning_thin.specs.declared.devices.MapRuns.{MapRuns}
use Rattle.pd_meaning_thin.specs.declared.devices.DeviceRow.{DeviceRow}
use Rattle.pd_meaning_thin.specs.declared.devices.ThinDevices.{ThinDevices}

-- a number as the details of a device
abbrev pub details_of : ℕ → Details
details_of number = record {
  mapped = number % 2 ^ 64;
  transaction = number / 2 ^ 64 % 2 ^ 64;
  created = number / 2 ^ 128 % 2 ^ 32;
  snapped = number / 2 ^ 160;
}

-- a number as the data block and the time of a mapping
abbrev pub block_time_of : ℕ → BlockTime
block_time_of number = record { block = number / 2 ^ 24; time = number % 2 ^ 24 }

-- the mapping of an entry
abbrev pub mapping_of : ℕ × BlockTime → Mapping
mapping_of item = record { virtual_block = item.0; data_block = item.1.block; time = item.1.time }

-- a run as it is given: its length stays at the end of its type
abbrev pub run_of : text.Run → Run
run_of r = record { virt = r.virtual_block; target = r.data_block; length = min r.length (2 ^ 64 - 1); time = r.time }

-- a given run as a text has it
abbrev pub spelled : Run → text.Run
spelled r = record { virtual_block = r.virt; data_block = r.target; length = r.length; time = r.time }

-- the runs of some mappings, as long as can be
abbrev pub given_runs : List Mapping → List Run
given_runs mappings = map run_of (joined_runs mappings)

-- the run of a begun one
abbrev pub given_run : OpenRun → Run
given_run begun = record { virt = begun.virt; target = begun.target; length = min (begun.more + 1) (2 ^ 64 - 1); time = begun.time }

-- the mappings of a begun run
abbrev pub begun_mappings : Option OpenRun → List Mapping
begun_mappings None = []
begun_mappings (Some begun) = mappings_from begun.virt begun.target begun.time (suc begun.more)

-- whether there is one, as a number
abbrev pub begun_number : Option OpenRun → ℕ
begun_number None = 0
begun_number (Some begun) = 1

-- a mapping follows the last one of a begun run
abbrev pub is_followed_by : OpenRun → ℕ → BlockTime → Bool
is_followed_by begun virt mapping =
    (begun.virt + begun.more + 1 == virt) && ((begun.target + begun.more + 1 == mapping.block) && (begun.time == mapping.time))

-- the data block and the time of its first mapping
abbrev pub first_of : OpenRun → BlockTime
first_of begun = record { block = begun.target; time = begun.time }

-- a run was given of what was left, or none
abbrev pub IsGiven : Option Run → List Run → List Run → Type 0
IsGiven None old new = old ≡ new
IsGiven (Some run) old new = old ≡ run ∷ new

-- the mappings of the tree with this root
abbrev pub mappings_below : List (List ℕ) → ℕ → List Mapping
mappings_below image root = map mapping_of (items_below 8 block_time_of image 63 root)

-- their runs
abbrev pub runs_below : List (List ℕ) → ℕ → List Run
runs_below image root = given_runs (mappings_below image root)

-- the mappings that are left: those of the begun run, and those that weren't taken
abbrev pub mappings_left : List (List ℕ) → MapRuns → List Mapping
mappings_left image runs =
    begun_mappings runs.joined.begun
    ++ (if runs.ended then [] else map mapping_of (cursor_items 8 block_time_of image runs.mappings))

-- the runs that are left, and how many reads they take at most
abbrev pub runs_left : List (List ℕ) → MapRuns → List Run
runs_left image runs = given_runs (mappings_left image runs)

abbrev pub runs_reads : List (List ℕ) → MapRuns → ℕ
runs_reads image runs = if runs.ended then 0 else length (cursor_nodes 8 image runs.mappings)

-- a number that falls with each run
abbrev pub runs_number : MapRuns → ℕ
runs_number runs = (if runs.ended then 0 else 2 * cursor_number 8 runs.mappings + 2) + begun_number runs.joined.begun

-- the row of an entry of the mapping tree and an entry of the details tree
abbrev pub row_of : (ℕ × Root) × (ℕ × Details) → DeviceRow
row_of both = record { id = both.0.0; root = both.0.1.0; details = both.1.1 }

-- the rows of the entries in the same places
abbrev pub rows_of : List (ℕ × Root) → List (ℕ × Details) → List DeviceRow
rows_of tops details = map row_of (zip tops details)

-- the rows of the trees with these roots
abbrev pub rows_below : List (List ℕ) → ℕ → ℕ → List DeviceRow
rows_below image mapping_root details_root =
    rows_of (items_below 8 root_of image 63 mapping_root) (items_below 24 details_of image 63 details_root)

-- the rows that are left, how many reads they take at most, and a number that falls
abbrev pub rows_left : List (List ℕ) → ThinDevices → List DeviceRow
rows_left image devices = rows_of (cursor_items 8 root_of image devices.tops) (cursor_items 24 details_of image devices.details)

abbrev pub rows_reads : List (List ℕ) → ThinDevices → ℕ
rows_reads image devices = length (cursor_nodes 8 image devices.tops) + length (cursor_nodes 24 image devices.details)

abbrev pub rows_number : ThinDevices → ℕ
rows_number devices = cursor_number 8 devices.tops
