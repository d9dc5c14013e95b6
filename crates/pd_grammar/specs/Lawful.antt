-- Trusted base.
-- The meanings that a text can spell, one record a kind.
use Rattle.std.specs.Prelude.{◌≡◌, ◌⊎◌, ℕ, ◌+◌, ◌^◌, ◌<◌, ◌≤◌, ◌==◌, false, List, [], ◌∷◌, length, All}
use Rattle.std.specs.List.{list_any, AllByRecursion}
use Rattle.pd_kinds.specs.Meaning.{ThinPool, ThinDevice, Mapping, CacheMeaning, CacheEntry, EraMeaning}

-- a mapping that may come where the next virtual block is at least this
pub record IsMapping (blocks least : ℕ) (m : Mapping) : Type 0 where
  pub above : least ≤ m.virtual_block
  pub virtual_fits : m.virtual_block < 2 ^ 64
  pub within : m.data_block < blocks
  pub time_fits : m.time < 2 ^ 24

abbrev pub AreMappings : ℕ → ℕ → List Mapping → Type 0
AreMappings blocks least [] = Unit {0}
AreMappings blocks least (m ∷ ms) = IsMapping blocks least m × AreMappings blocks (m.virtual_block + 1) ms

-- a device that may come where the next id is at least this
pub record IsDevice (blocks least : ℕ) (d : ThinDevice) : Type 0 where
  pub above : least ≤ d.id
  pub id_fits : d.id < 2 ^ 64
  pub mapped : d.mapped ≡ length d.mappings
  pub mapped_fits : d.mapped < 2 ^ 64
  pub transaction_fits : d.transaction < 2 ^ 64
  pub created_fits : d.created < 2 ^ 32
  pub snapped_fits : d.snapped < 2 ^ 32
  pub mappings : AreMappings blocks 0 d.mappings

abbrev pub AreDevices : ℕ → ℕ → List ThinDevice → Type 0
AreDevices blocks least [] = Unit {0}
AreDevices blocks least (d ∷ ds) = IsDevice blocks least d × AreDevices blocks (d.id + 1) ds

-- a pool that a text can spell
pub record IsLawfulPool (m : ThinPool) : Type 0 where
  pub uuid_len : length m.uuid ≡ 16
  pub uuid_bytes : All (λ b. b < 256) m.uuid
  pub time_fits : m.time < 2 ^ 32
  pub transaction_fits : m.transaction < 2 ^ 64
  pub block_size_fits : m.block_size < 2 ^ 32
  pub data_blocks_fit : m.data_blocks ≤ 2 ^ 40
  pub devices : AreDevices m.data_blocks 0 m.devices

-- an entry of a cache that may come where the next cache block is at least this, and these are the origins of the
-- entries before it
pub record IsEntry (blocks hint_size least : ℕ) (earlier : List ℕ) (e : CacheEntry) : Type 0 where
  pub above : least ≤ e.block
  pub within : e.block < blocks
  pub origin_fits : e.origin < 2 ^ 48
  pub hint_fits : e.hint < 2 ^ 32
  pub no_hint : hint_size ≡ 0 → e.hint ≡ 0
  pub new : list_any (λ origin. origin == e.origin) earlier ≡ false

abbrev pub AreEntries : ℕ → ℕ → ℕ → List ℕ → List CacheEntry → Type 0
AreEntries blocks hint_size least earlier [] = Unit {0}
AreEntries blocks hint_size least earlier (e ∷ es) =
    IsEntry blocks hint_size least earlier e × AreEntries blocks hint_size (e.block + 1) (e.origin ∷ earlier) es

-- a cache that a text can spell
pub record IsLawfulCache (m : CacheMeaning) : Type 0 where
  pub uuid_len : length m.uuid ≡ 16
  pub uuid_bytes : All (λ b. b < 256) m.uuid
  pub block_size_fits : m.block_size < 2 ^ 32
  pub blocks_fit : m.blocks < 2 ^ 32
  pub policy_len : length m.policy ≡ 16
  pub policy_bytes : All (λ b. b < 256) m.policy
  pub three_versions : length m.versions ≡ 3
  pub versions_fit : AllByRecursion (λ v. v < 2 ^ 32) m.versions
  pub hint_size_is : (m.hint_size ≡ 0) ⊎ (m.hint_size ≡ 4)
  pub entries : AreEntries m.blocks m.hint_size 0 [] m.entries

-- an era target that a text can spell: one era for each block
pub record IsLawfulEra (m : EraMeaning) : Type 0 where
  pub uuid_len : length m.uuid ≡ 16
  pub uuid_bytes : All (λ b. b < 256) m.uuid
  pub block_size_fits : m.block_size < 2 ^ 32
  pub blocks_fit : m.blocks < 2 ^ 32
  pub era_fits : m.era < 2 ^ 32
  pub one_each : m.blocks ≡ length m.eras
  pub eras_fit : AllByRecursion (λ e. e < 2 ^ 32) m.eras
