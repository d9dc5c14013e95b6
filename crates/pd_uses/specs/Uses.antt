-- The uses of a pool's data blocks, as its trees have them.
-- The uses of a region's data blocks, in their order.
-- How often data blocks are used.
-- The bytes of the lines of uses, and of the list of devices.
use Rattle.std.specs.Prelude.{ℕ, List, ◌∷◌, map, filter_map, Option, None, Some, ◌-◌, Bool, ◌==◌, ◌&&◌, not, nat_lt, filter, length, ◌≡◌, ◌≤◌, [], ◌++◌, drop, slice_index, Result, MatchResult, codes, decimal}
use Rattle.std.specs.List.{flat_map, range_with_len}
use Rattle.pd_kinds.specs.declared.superblocks.ThinSuper.{ThinSuper}
use Rattle.pd_kinds.specs.Meaning.{Mapping, ThinPool, thin_meaning}
use Rattle.pd_kinds.specs.declared.kind.Kind.TheVariants.{Thin}
use Rattle.pd_kinds.specs.declared.kind.Stage.TheVariants.{Whole}
use Rattle.pd_kinds.specs.Graph.{block_at}
use Rattle.pd_kinds.specs.Objects.{Rose}
use Rattle.pd_kinds.specs.Stages.{faults}
use Rattle.pd_kinds.specs.ThinFormat.{thin_fields}
use Rattle.pd_meaning_thin.specs.declared.devices.DeviceRow.{DeviceRow}
use Rattle.pd_meaning_thin.specs.Given.{super_rows}
use Rattle.pd_meaning_thin.specs.Runs.{mappings_below}
use Rattle.pd_query.specs.declared.query.QueryFault.{QueryFault}
use Rattle.pd_query.specs.declared.query.QueryFault.TheVariants.{Memory, Device, Sink}
use Rattle.pd_query.specs.Query.{Puts}
use Rattle.pd_uses.specs.declared.hits.DataUse.{DataUse}

-- the use that a mapping of a device is
abbrev pub use_by : ℕ → Mapping → DataUse
use_by id mapping = record { block = mapping.data_block; id = id; virt = mapping.virtual_block }

-- the uses by a device
abbrev pub row_uses : List (List ℕ) → DeviceRow → List DataUse
row_uses image row = map (use_by row.id) (mappings_below image row.root)

-- those by some devices, one after another
abbrev pub rows_uses : List (List ℕ) → List DeviceRow → List DataUse
rows_uses image rows = flat_map (row_uses image) rows

-- those by the devices of the pool with this superblock
abbrev pub super_uses : List (List ℕ) → ThinSuper → List DataUse
super_uses image s = rows_uses image (super_rows image s)

-- what a walk over some devices tells: None where a device begins, and then its uses
abbrev pub rows_told : List (List ℕ) → List DeviceRow → List (Option DataUse)
rows_told image rows = flat_map (λ row. None ∷ map Some (row_uses image row)) rows

abbrev pub super_told : List (List ℕ) → ThinSuper → List (Option DataUse)
super_told image s = rows_told image (super_rows image s)

-- the uses among what is told
unfoldable pub uses_told : List (Option DataUse) → List DataUse
uses_told told = filter_map (λ one. one) told

-- whether the data block of a use is in the region from the first block on and below the end
abbrev pub is_within : ℕ → ℕ → DataUse → Bool
is_within first end one = not (nat_lt one.block first) && nat_lt one.block end

-- the uses of a block
abbrev pub uses_of_block : List DataUse → ℕ → List DataUse
uses_of_block uses block = filter (λ (one : DataUse). one.block == block) uses

-- the uses of the region's blocks: block after block, and those of one block as they were
abbrev pub ordered_uses : ℕ → ℕ → List DataUse → List DataUse
ordered_uses first end uses = flat_map (uses_of_block uses) (range_with_len first (end - first))

-- how many uses a block has
abbrev pub number_of_uses : List DataUse → ℕ → ℕ
number_of_uses uses block = length (uses_of_block uses block)

-- the line of a use, and those of uses
abbrev pub use_line : DataUse → List ℕ
use_line one =
    codes "block " ++ (decimal one.block ++ (codes " device " ++ (decimal one.id
    ++ (codes " virtual " ++ (decimal one.virt ++ (10 ∷ []))))))

abbrev pub uses_text : List DataUse → List ℕ
uses_text uses = flat_map use_line uses

-- the line of a device: its blocks, and its details
abbrev pub blocks_part : DeviceRow → ℕ → List ℕ
blocks_part row exclusive =
    codes "device " ++ (decimal row.id
    ++ (codes " mapped " ++ (decimal row.details.mapped
    ++ (codes " exclusive " ++ (decimal exclusive
    ++ (codes " shared " ++ decimal (row.details.mapped - exclusive)))))))

abbrev pub details_part : DeviceRow → List ℕ
details_part row =
    codes " transaction " ++ (decimal row.details.transaction
    ++ (codes " created " ++ (decimal row.details.created
    ++ (codes " snapped " ++ (decimal row.details.snapped ++ (10 ∷ []))))))

abbrev pub device_line : DeviceRow → ℕ → List ℕ
device_line row exclusive = blocks_part row exclusive ++ details_part row

-- the lines of rows with these tallies, one after another
abbrev pub tallied_rows : List ℕ → List DeviceRow → List ℕ
tallied_rows tallies [] = []
tallied_rows tallies (row ∷ rows) = device_line row (slice_index tallies 0) ++ tallied_rows (drop 1 tallies) rows

-- Lines were put, or a front of them where the work failed. Where the device tells an image without faults up to the
-- stage Whole, and this is its superblock, they are those of the pool that the image means
abbrev pub PutsLines : (ThinPool → List ℕ) → ThinSuper → Result (Unit {0}) QueryFault → Option (List (List ℕ)) → Option (List ℕ) → Option (List ℕ) → Type 0
PutsLines lines s result held before after =
    Puts held (λ image text. s ≡ thin_fields (block_at image 0) → faults Thin Whole image ≡ [] → text ≡ lines (thin_meaning image)) result before after

-- why lines weren't put: the sink, or memory
abbrev pub HasNotPut : QueryFault → ℕ → ℕ → Type 0
HasNotPut Memory out out' = out' ≡ out
HasNotPut Device out out' = ⊥
HasNotPut Sink out out' = Rose out out' × (out ≤ out')

abbrev pub PutFails : Result (Unit {0}) QueryFault → ℕ → ℕ → Type 0
PutFails result out out' = MatchResult result (λ _. out' ≡ out) (λ fault. HasNotPut fault out out')
