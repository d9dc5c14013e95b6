-- What a salvage keeps of the devices of a mapping tree.
use Rattle.std.specs.Prelude.{◌≡◌, ℕ, ◌+◌, if◌then◌else◌, List, length, map}
use Rattle.std.specs.List.{flat_map}
use Rattle.pd_kinds.specs.Graph.{Graph, is_outside}
use Rattle.pd_kinds.specs.Meaning.{Mapping, ThinDevice}
use Rattle.pd_value.specs.declared.thin.Root.{Root}
use Rattle.pd_measures.specs.Counts.{latest}
use Rattle.pd_measures.specs.Measured.{capped, capped_sum}
use Rattle.pd_answers.specs.DamagedStates.{kept_devices, kept_number, kept_roots}
use Rattle.pd_damaged.specs.Kept.{join, kept_below, measure_of, no_kept}
use Rattle.pd_damaged.specs.declared.kept.Kept.{Kept}
use Rattle.pd_damaged.specs.declared.top.KeptTop.{KeptTop}

-- no devices, and devices with one more
abbrev pub no_devices : KeptTop
no_devices = record { devices = 0; kept = no_kept }

abbrev pub with_device : KeptTop → Kept → KeptTop
with_device sum kept = record { devices = capped (sum.devices + 1); kept = join sum.kept kept }

-- by an entry of the mapping tree
abbrev pub device_counted : ℕ → ℕ → List (List ℕ) → KeptTop → ℕ × Root → KeptTop
device_counted nr data_blocks image sum item =
    if is_outside nr item.1.0 then sum else with_device sum (measure_of (kept_below nr data_blocks image item.1.0))

-- how many devices and mappings are kept of a mapping tree, the sum of the mappings' times, and the latest of them, whatever
-- details the devices have
pub record IsKeptOfTop (graph : Graph) (image : List (List ℕ)) (top : ℕ) (kept : KeptTop) : Type 0 where
  pub devices : (details : ℕ) → kept.devices ≡ capped (length (kept_devices graph image top details))
  pub number : (details : ℕ) → kept.kept.number ≡ capped (kept_number (kept_devices graph image top details))
  pub times : (details : ℕ) → kept.kept.times ≡ capped_sum (kept_roots graph image top details).times
  pub time : (details : ℕ) → kept.kept.time
      ≡ latest (flat_map (λ (d : ThinDevice). map (λ (m : Mapping). m.time) d.mappings) (kept_devices graph image top details))
