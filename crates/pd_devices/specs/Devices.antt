-- The devices that the lines of a pool's text of version 1 give, of lines with the newest first.
-- A tree that grows by the items of a run, whatever comes after them.
-- The values of lines as the definitions have them.
use Rattle.std.specs.Prelude.{◌+◌, ◌^◌, ◌≤◌, ◌<◌, List, [], ◌∷◌, ◌++◌, map, ◌≡◌, ℕ, length}
use Rattle.pd_kinds.specs.Meaning.{ThinDevice}
use Rattle.pd_kinds.specs.Node.{Entry}
use Rattle.pd_grammar.specs.ThinText.{Line, first_line, shared_first_line, pool_line, leaf_line, device_line, use_line, map_line, end_line, Details, Run, mappings_of, data_blocks_of, piece_end, unmapped}
use Rattle.pd_grammar.specs.Need.{need_tree}
use Rattle.pd_laid.specs.Laid.{tree_blocks, tree_root}
use Rattle.pd_value.specs.declared.thin.Details.{Details as Value}
use Rattle.pd_draft.specs.Closed.{DraftState, Wrote}
use Rattle.pd_build.specs.Tree.{items_to_come, TreeLeft, blocks_left, root_left, number_left}
use Rattle.pd_devices.specs.declared.devices.Run.{Run as Value2}

-- a device without mappings, and with those of a run more
abbrev pub bare_device : Details → ThinDevice
bare_device d = record { id = d.id; mapped = d.mapped; transaction = d.transaction; created = d.created; snapped = d.snapped; mappings = [] }

abbrev pub with_run : Run → ThinDevice → ThinDevice
with_run r d = record {
  id = d.id;
  mapped = d.mapped;
  transaction = d.transaction;
  created = d.created;
  snapped = d.snapped;
  mappings = d.mappings ++ mappings_of r;
}

-- The device whose lines may go on, with its mappings so far; there is one or none. Version 1 has no leaves, and no uses
abbrev pub open_device : List Line → List ThinDevice
open_device [] = []
open_device (first_line ∷ before) = []
open_device (shared_first_line ∷ before) = []
open_device (pool_line p ∷ before) = []
open_device (leaf_line l ∷ before) = []
open_device (device_line d ∷ before) = bare_device d ∷ []
open_device (use_line n ∷ before) = open_device before
open_device (map_line r ∷ before) = map (with_run r) (open_device before)
open_device (end_line ∷ before) = []

-- the devices whose lines are over
abbrev pub whole_devices : List Line → List ThinDevice
whole_devices [] = []
whole_devices (first_line ∷ before) = []
whole_devices (shared_first_line ∷ before) = []
whole_devices (pool_line p ∷ before) = []
whole_devices (leaf_line l ∷ before) = whole_devices before ++ open_device before
whole_devices (device_line d ∷ before) = whole_devices before ++ open_device before
whole_devices (use_line n ∷ before) = whole_devices before
whole_devices (map_line r ∷ before) = whole_devices before
whole_devices (end_line ∷ before) = whole_devices before ++ open_device before

-- a map line of this run may follow these lines
pub record MayFollow (before : List Line) (r : Run) : Type 0 where
  pub some : 1 ≤ r.length
  pub fits : r.virtual_block + r.length ≤ 2 ^ 64
  pub within : r.data_block + r.length ≤ data_blocks_of before
  pub time : r.time < 2 ^ 24
  pub above : piece_end before ≤ r.virtual_block
  pub enough : r.length ≤ unmapped before

-- the tree of so many items is begun, and none was put yet
pub record IsBegun (size number : ℕ) (t : TreeLeft) : Type 0 where
  pub blocks : (place : ℕ) (items : List Entry) → length items ≡ number → blocks_left size place t items ≡ tree_blocks size place items
  pub root : (place : ℕ) (items : List Entry) → length items ≡ number → root_left place t items ≡ tree_root size place items
  pub items : items_to_come t.leaves ≡ number
  pub room : number_left t ≡ need_tree size number

-- these items were taken, one after another: what was written then, and what is left, are what was left
pub record GrowsBy (size : ℕ) (taken : List Entry) (old new : TreeLeft) (from to : DraftState) : Type 0 where
  pub written : List (List ℕ)
  pub wrote : Wrote written from to
  pub blocks : (items : List Entry) → blocks_left size from.place old (taken ++ items) ≡ written ++ blocks_left size to.place new items
  pub root : (items : List Entry) → root_left from.place old (taken ++ items) ≡ root_left to.place new items
  pub items : items_to_come new.leaves + length taken ≡ items_to_come old.leaves
  pub room : to.place + number_left new ≡ from.place + number_left old

-- a device's line
abbrev pub details_line : ℕ → Value → Details
details_line id d = record { id = id; mapped = d.mapped; transaction = d.transaction; created = d.created; snapped = d.snapped }

-- a run
abbrev pub run_of : Value2 → Run
run_of r = record { virtual_block = r.virtual_block; data_block = r.data_block; length = r.length; time = r.time }
