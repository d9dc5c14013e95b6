-- A pool that is being saved.
use Rattle.std.specs.Prelude.{◌≡◌, ℕ, ◌+◌, ◌^◌, ◌<◌, ◌≤◌, not, List, [], ◌∷◌, ◌++◌, length, map, filter, nat_lt, Option, None, IfSome}
use Rattle.std.specs.List.{All, AllByRecursion}
use Rattle.pd_kinds.specs.declared.superblocks.ThinSuper.{ThinSuper}
use Rattle.pd_kinds.specs.Graph.{is_outside}
use Rattle.pd_kinds.specs.Meaning.{Mapping, ThinDevice}
use Rattle.pd_kinds.specs.Node.{Entry}
use Rattle.pd_grammar.specs.Lawful.{AreDevices}
use Rattle.pd_grammar.specs.ThinText.{device_of_part}
use Rattle.pd_laid.specs.Salvage.{salvaged_entries, salvaged_device}
use Rattle.pd_value.specs.declared.thin.BlockTime.{BlockTime}
use Rattle.pd_value.specs.declared.thin.Details.{Details}
use Rattle.pd_value.specs.declared.thin.Root.{Root}
use Rattle.pd_tree.specs.Cursor.{item_of, root_of}
use Rattle.pd_tree.specs.Search.{lookup}
use Rattle.pd_meaning_thin.specs.Packed.{IsEnd}
use Rattle.pd_meaning_thin.specs.declared.joined.Run.{Run}
use Rattle.pd_meaning_thin.specs.Runs.{block_time_of, details_of, mapping_of}
use Rattle.pd_salvage.specs.declared.saved.SavedDevice.{SavedDevice}
use Rattle.pd_salvage.specs.declared.saved.SavedHead.{SavedHead}
use Rattle.pd_salvage.specs.declared.saving.LastDevice.{LastDevice}
use Rattle.pd_salvage.specs.declared.saving.Saving.{Saving}
use Rattle.pd_salvage.specs.Cursor.{saved_left, saved_least, saved_room}
use Rattle.pd_salvage.specs.Details.{details_left, details_room}
use Rattle.pd_salvage.specs.Gather.{IsGathered}
use Rattle.pd_salvage.specs.Saved.{IsJoined, SavedPool, parts_of, runs_of_devices}

-- the head of a pool with this superblock
abbrev pub head_of : ThinSuper → SavedHead
head_of s = record { uuid = s.uuid; time = s.time; transaction = s.transaction; block_size = s.block_size; blocks = s.data_map.blocks }

-- what was saved so far
abbrev pub saved_pool : Saving → SavedPool
saved_pool saving = record { head = head_of saving.s; devices = saving.devices.items; runs = saving.runs }

-- the devices of what was saved
abbrev pub saved_devices : List SavedDevice → List Run → List ThinDevice
saved_devices devices runs = map device_of_part (parts_of devices runs)

-- the cursors are over the metadata blocks of the pool
pub record HasReadyCursors (saving : Saving) : Type 0 where
  pub tops : saved_room saving.tops ≡ saving.s.meta_map.blocks
  pub details : details_room saving.details ≡ saving.s.meta_map.blocks

-- the entries of the details tree
abbrev pub all_details : ThinSuper → List (List ℕ) → List Entry
all_details s image = salvaged_entries 24 s.meta_map.blocks image s.details_root

-- the details of a device whose own are lost: the pool's transaction, and its time as created and as snapped
abbrev pub lost_details : ℕ → ℕ → Details
lost_details transaction time = record { mapped = 0; transaction = transaction; created = time; snapped = time }

-- these numbers fit their places
pub record FitLost (transaction time : ℕ) : Type 0 where
  pub transaction_fits : transaction < 2 ^ 64
  pub time_fits : time < 2 ^ 32

-- nothing was saved, and all is left
pub record IsStarted (s : ThinSuper) (saving : Saving) : Type 0 where
  pub fields : saving.s ≡ s
  pub ready : HasReadyCursors saving
  pub devices : saving.devices.items ≡ []
  pub runs : saving.runs ≡ []
  pub last : saving.last ≡ None
  pub tops_left : (image : List (List ℕ)) → saved_left 8 root_of image saving.tops ≡ map (item_of root_of) (salvaged_entries 8 s.meta_map.blocks image s.mapping_root)
  pub least : saved_least saving.tops ≡ 0
  pub details : (image : List (List ℕ)) → details_left image saving.details ≡ map (item_of details_of) (all_details s image)

-- the entry of an item
abbrev pub entry_of : ℕ × Root → Entry
entry_of item = record { key = item.0; value = item.1.0 }

-- the devices of some entries of the mapping tree
abbrev pub devices_of : ThinSuper → List (List ℕ) → List (ℕ × Root) → List ThinDevice
devices_of s image items =
    map (λ item. salvaged_device s image (entry_of item)) (filter (λ (item : ℕ × Root). not (is_outside s.meta_map.blocks item.1.0)) items)

-- the mappings that are saved below a root
abbrev pub mappings_at : ThinSuper → List (List ℕ) → ℕ → List Mapping
mappings_at s image root =
    map mapping_of (filter (λ (item : ℕ × BlockTime). nat_lt item.1.block s.data_map.blocks) (map (item_of block_time_of) (salvaged_entries 8 s.meta_map.blocks image root)))

-- the last runs are those of a device, and are read from its place on
pub record StandsLast (held : Option (List (List ℕ))) (s : ThinSuper) (last : LastDevice) (runs : List Run) : Type 0 where
  pub before : List Run
  pub is_end : IsEnd before last.place
  pub gathered : IsGathered s.data_map.blocks 0 last.mappings held (λ image. mappings_at s image last.root) before runs

-- so they are where a device was saved
abbrev pub KnowsLast : Option (List (List ℕ)) → Saving → Type 0
KnowsLast held saving = IfSome saving.last (λ last. StandsLast held saving.s last saving.runs)

-- the details of ids from this one on can be found
abbrev pub KnowsFrom : ℕ → List (List ℕ) → Saving → Type 0
KnowsFrom least image saving =
    (id : ℕ) → least ≤ id → lookup id (details_left image saving.details) ≡ lookup id (map (item_of details_of) (all_details saving.s image))

-- the devices and runs are lawful, and those of devices with ids from this one on may follow
pub record IsSaving (blocks least : ℕ) (devices : List SavedDevice) (runs : List Run) : Type 0 where
  pub lawful : (rest : List ThinDevice) → AreDevices blocks least rest → AreDevices blocks 0 (saved_devices devices runs ++ rest)
  pub joined : AllByRecursion IsJoined (parts_of devices runs)
  pub number : runs_of_devices devices ≡ length runs

-- the devices and runs are lawful
pub record IsSaved (blocks : ℕ) (devices : List SavedDevice) (runs : List Run) : Type 0 where
  pub lawful : AreDevices blocks 0 (saved_devices devices runs)
  pub joined : AllByRecursion IsJoined (parts_of devices runs)
  pub number : runs_of_devices devices ≡ length runs

-- a device with these details, but for their mapped number
abbrev pub saved_device : ℕ → Details → ℕ → ℕ → SavedDevice
saved_device id details mapped runs = record { id = id; details = record details { mapped = mapped }; runs = runs }

-- the numbers of a device fit their places
pub record FitsDevice (d : SavedDevice) : Type 0 where
  pub id : d.id < 2 ^ 64
  pub mapped : d.details.mapped < 2 ^ 64
  pub transaction : d.details.transaction < 2 ^ 64
  pub created : d.details.created < 2 ^ 32
  pub snapped : d.details.snapped < 2 ^ 32

-- so do those of a head
pub record FitsHead (head : SavedHead) : Type 0 where
  pub uuid_len : length head.uuid ≡ 16
  pub uuid_bytes : All (λ b. b < 256) head.uuid
  pub time : head.time < 2 ^ 32
  pub transaction : head.transaction < 2 ^ 64
  pub block_size : head.block_size < 2 ^ 32

-- one device more is saved
pub record SavesDevice (held : Option (List (List ℕ))) (id root : ℕ) (old new : Saving) : Type 0 where
  pub lawful : (least : ℕ) → least ≤ id → IsSaving old.s.data_map.blocks least old.devices.items old.runs
      → IsSaving old.s.data_map.blocks (id + 1) new.devices.items new.runs
  pub told : IfSome held (λ image. (least : ℕ) → least ≤ id → KnowsFrom least image old → runs_of_devices old.devices.items ≡ length old.runs
      → KnowsFrom (id + 1) image new
      × (saved_devices new.devices.items new.runs ≡ saved_devices old.devices.items old.runs ++ salvaged_device old.s image (record { key = id; value = root }) ∷ []))
