-- Trusted base.
-- Which data blocks of a pool a kernel takes for shared. It copies a data block before a write to a device where the device was
-- snapped after the mapping there was made; else it takes the block for the device's own, and writes to it in place.
use Rattle.std.specs.Prelude.{◌≡◌, ◌⊎◌, ℕ, ◌<◌, ◌≤◌, min, true, List, [], Option, IfSome, IsSome}
use Rattle.std.specs.List.{All, Contains}
use Rattle.pd_kinds.specs.declared.kind.Kind.TheVariants.{Thin}
use Rattle.pd_kinds.specs.declared.kind.Stage.TheVariants.{Whole}
use Rattle.pd_kinds.specs.Graph.{block_at}
use Rattle.pd_kinds.specs.Image.{IsImage}
use Rattle.pd_kinds.specs.Meaning.{Mapping, ThinDevice, ThinPool, thin_meaning}
use Rattle.pd_kinds.specs.Stages.{faults}
use Rattle.pd_kinds.specs.ThinFormat.{thin_fields}
use Rattle.pd_kinds.specs.Trees.{value_of_key}
use Rattle.pd_laid.specs.Salvage.{salvaged_entries, is_damaged, salvage}
use Rattle.pd_answers.specs.Terms.{Objects}
use Rattle.pd_answers.specs.Searches.{greatest_time}

-- a place in a pool: a device, and one of its mappings
pub record MappingPlace (pool : ThinPool) : Type 0 where
  pub device : ThinDevice
  pub mapping : Mapping
  pub of_pool : Contains pool.devices device
  pub of_device : Contains device.mappings mapping

-- another place, of another device or virtual block, leads to the same data block
pub record IsShared {pool : ThinPool} (place : MappingPlace pool) : Type 0 where
  pub other : MappingPlace pool
  pub apart : (other.device.id ≡ place.device.id) × (other.mapping.virtual_block ≡ place.mapping.virtual_block) → ⊥
  pub same : other.mapping.data_block ≡ place.mapping.data_block

-- sharing is seen in a pool: at each place whose data block another one leads to, a kernel copies it before it writes
abbrev pub SharingIsSeen : ThinPool → Type 0
SharingIsSeen pool = (place : MappingPlace pool) → IsShared place → place.mapping.time < place.device.snapped

-- no device was snapped after the pool's time, unless that is the greatest one of a mapping, or later
abbrev pub IsTimely : ThinPool → Type 0
IsTimely pool = All (λ (d : ThinDevice). min d.snapped greatest_time ≤ pool.time) pool.devices

-- the details of a device that can be saved of an image, if there are any
abbrev pub details_in : List (List ℕ) → ℕ → Option ℕ
details_in image id =
    let fields = thin_fields (block_at image 0) in
    value_of_key (salvaged_entries 24 fields.meta_map.blocks image fields.details_root) id

-- What kernels keep in every pool, said of what is saved of an image: where a data block is shared, the mapping was made before the
-- pool's time, and, where the details of its device are found, before the device was snapped
pub record HasTimesOfSharing (image : List (List ℕ)) : Type 0 where
  pub before_the_pool : (place : MappingPlace (salvage image)) → IsShared place → place.mapping.time < (salvage image).time
  pub before_the_snap : (place : MappingPlace (salvage image)) → IsShared place → IsSome (details_in image place.device.id) → place.mapping.time < place.device.snapped

-- a pool as kernels keep it: it has no faults up to the stage Whole, sharing is seen in it, and no device was snapped after its time
pub record IsKeptPool (image : List (List ℕ)) : Type 0 where
  pub is : IsImage image
  pub sound : faults Thin Whole image ≡ []
  pub seen : SharingIsSeen (thin_meaning image)
  pub snapped : All (λ (d : ThinDevice). d.snapped ≤ (thin_meaning image).time) (thin_meaning image).devices

-- an image of a pool of which blocks behind the superblock were damaged: each of them is what it was, or breaks a rule of its own as
-- a node, such as that of its checksum
pub record IsDamagedPool (whole image : List (List ℕ)) : Type 0 where
  pub superblock : block_at image 0 ≡ block_at whole 0
  pub blocks : (b : ℕ) → (block_at image b ≡ block_at whole b) ⊎ ((size : ℕ) → is_damaged size b (block_at image b) ≡ true)

-- the output holds a pool in which sharing is seen, where this is so of the input
abbrev pub SeesSharingWhere : (List (List ℕ) → Type 0) → Objects → Objects → Type 0
SeesSharingWhere IsSo before after =
    IfSome before.input.held (λ image. IsImage image → IfSome before.output.held (λ base.
    IfSome after.output.held (λ repaired. IsSo image → SharingIsSeen (thin_meaning repaired))))

-- and one in which it is seen, whatever the input is
abbrev pub SeesSharing : Objects → Objects → Type 0
SeesSharing before after =
    IfSome before.input.held (λ image. IsImage image → IfSome before.output.held (λ base.
    IfSome after.output.held (λ made. SharingIsSeen (thin_meaning made))))
