-- What was saved of a pool.
-- How a salvage ends that has no answer.
use Rattle.std.specs.Prelude.{◌≡◌, ℕ, List, [], ◌∷◌, length, map, take, drop, ◌≤◌, Result, Ok, Err}
use Rattle.std.specs.List.{AllByRecursion, flat_map, sum_by}
use Rattle.pd_kinds.specs.Meaning.{ThinPool}
use Rattle.pd_kinds.specs.Objects.{Rose}
use Rattle.pd_grammar.specs.Lawful.{IsLawfulPool}
use Rattle.pd_grammar.specs.ThinText.{Part, device_of_part, joined_runs, mappings_of}
use Rattle.pd_meaning_thin.specs.declared.joined.Run.{Run}
use Rattle.pd_meaning_thin.specs.Runs.{spelled}
use Rattle.pd_salvage.specs.declared.saved.SavedDevice.{SavedDevice}
use Rattle.pd_salvage.specs.declared.saved.SavedHead.{SavedHead}
use Rattle.pd_salvage.specs.declared.saved.SalvageFault.{SalvageFault}
use Rattle.pd_salvage.specs.declared.saved.SalvageFault.TheVariants as f

-- a pool that was saved: its head, its devices, and the runs of all devices, those of the first device first
pub record SavedPool : Type 0 where
  pub head : SavedHead
  pub devices : List SavedDevice
  pub runs : List Run

-- the same head with another snapshot count, and a pool with it, and with other devices
abbrev pub head_at : SavedHead → ℕ → SavedHead
head_at head time = record { uuid = head.uuid; time = time; transaction = head.transaction; block_size = head.block_size; blocks = head.blocks }

abbrev pub with_devices : SavedPool → ℕ → List SavedDevice → SavedPool
with_devices saved time devices = record { head = head_at saved.head time; devices = devices; runs = saved.runs }

-- a device as a text gives it, with its runs
abbrev pub part_of : SavedDevice → List Run → Part
part_of d runs = record {
  details = record {
    id = d.id;
    mapped = d.details.mapped;
    transaction = d.details.transaction;
    created = d.details.created;
    snapped = d.details.snapped;
  };
  runs = map spelled runs;
}

-- the devices, each with as many of the runs as are its
abbrev pub parts_of : List SavedDevice → List Run → List Part
parts_of [] runs = []
parts_of (d ∷ ds) runs = part_of d (take d.runs runs) ∷ parts_of ds (drop d.runs runs)

-- how many runs the devices have
abbrev pub runs_of_devices : List SavedDevice → ℕ
runs_of_devices devices = sum_by (λ (d : SavedDevice). d.runs) devices

-- the pool that was saved
unfoldable pub pool_of : SavedPool → ThinPool
pool_of saved = record {
  uuid = saved.head.uuid;
  time = saved.head.time;
  transaction = saved.head.transaction;
  block_size = saved.head.block_size;
  data_blocks = saved.head.blocks;
  devices = map device_of_part (parts_of saved.devices saved.runs);
}

-- the runs of a part are as long as can be
abbrev pub IsJoined : Part → Type 0
IsJoined part = joined_runs (flat_map mappings_of part.runs) ≡ part.runs

-- a pool that was saved is lawful, its runs are as long as can be, and each run is a device's
pub record IsSavedPool (saved : SavedPool) : Type 0 where
  pub lawful : IsLawfulPool (pool_of saved)
  pub joined : AllByRecursion IsJoined (parts_of saved.devices saved.runs)
  pub number : runs_of_devices saved.devices ≡ length saved.runs

-- the device's count of faults rose where the call says that the device failed, and else stayed
abbrev pub CountsSalvage : {R : Type 0} → Result R SalvageFault → ℕ → ℕ → Type 0
CountsSalvage (Ok answer) old new = new ≡ old
CountsSalvage (Err f.Memory) old new = new ≡ old
CountsSalvage (Err f.Device) old new = Rose old new × (old ≤ new)
