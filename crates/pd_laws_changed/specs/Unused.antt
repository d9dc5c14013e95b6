-- Trusted base.
-- That no mapping leads to a data block.
use Rattle.std.specs.Prelude.{◌≡◌, ℕ, ◌==◌, false, List, map}
use Rattle.std.specs.List.{AllByRecursion}
use Rattle.pd_kinds.specs.Graph.{block_at}
use Rattle.pd_kinds.specs.Meaning.{Mapping, ThinDevice, thin_device, thin_meaning}
use Rattle.pd_kinds.specs.ThinFormat.{thin_graph}
use Rattle.pd_kinds.specs.Whole.{Roots, details_entries, thin_roots, top_entries}

-- the devices to which the roots of a superblock, or of its held copy, lead
abbrev pub devices_from : List (List ℕ) → Roots → List ThinDevice
devices_from image roots =
    let graph = thin_graph (block_at image 0) in
    map (thin_device graph image (details_entries graph image roots.details)) (top_entries graph image roots.mapping)

-- no mapping of these devices leads to a data block
abbrev pub IsUnmapped : ℕ → List ThinDevice → Type 0
IsUnmapped d devices =
    AllByRecursion (λ (device : ThinDevice).
    AllByRecursion (λ (mapping : Mapping). (mapping.data_block == d) ≡ false) device.mappings) devices

-- so it is of the devices of the pool, and of those of each root that the superblock names: its own, and the held one
pub record IsMappedByNone (image : List (List ℕ)) (d : ℕ) : Type 0 where
  pub pool : IsUnmapped d (thin_meaning image).devices
  pub roots : AllByRecursion (λ (roots : Roots). IsUnmapped d (devices_from image roots)) (thin_roots image)
