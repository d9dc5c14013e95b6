-- What the cursors give of a pool, as devices and as lines of a text.
use Rattle.std.specs.Prelude.{◌≡◌, ℕ, ◌+◌, ◌<◌, ◌≤◌, List, [], ◌∷◌, ◌++◌, length, map}
use Rattle.std.specs.List.{AllByRecursion, flat_map}
use Rattle.pd_kinds.specs.declared.superblocks.ThinSuper.{ThinSuper}
use Rattle.pd_kinds.specs.Graph.{block_at}
use Rattle.pd_kinds.specs.Meaning.{Mapping, ThinDevice, thin_meaning}
use Rattle.pd_kinds.specs.ThinFormat.{thin_fields}
use Rattle.pd_grammar.specs.ThinText.{Details, Head, joined_runs, Line, first_line, pool_line, device_line, map_line, end_line}
use Rattle.pd_meaning_thin.specs.declared.devices.DeviceRow.{DeviceRow}
use Rattle.pd_meaning_thin.specs.Runs.{rows_below, spelled, mappings_below, runs_below}

-- the rows of the pool with this superblock
abbrev pub super_rows : List (List ℕ) → ThinSuper → List DeviceRow
super_rows image fields = rows_below image fields.mapping_root fields.details_root

-- those of an image
abbrev pub pool_rows : List (List ℕ) → List DeviceRow
pool_rows image = super_rows image (thin_fields (block_at image 0))

-- the device of a row, with the mappings below its root
abbrev pub device_of : List (List ℕ) → DeviceRow → ThinDevice
device_of image row = record {
  id = row.id;
  mapped = row.details.mapped;
  transaction = row.details.transaction;
  created = row.details.created;
  snapped = row.details.snapped;
  mappings = mappings_below image row.root;
}

-- ids ascend, the first of them from a number on
abbrev pub IdsFrom : ℕ → List DeviceRow → Type 0
IdsFrom least [] = Unit {0}
IdsFrom least (row ∷ rows) = (least ≤ row.id) × IdsFrom (row.id + 1) rows

-- so do virtual blocks
abbrev pub BlocksFrom : ℕ → List Mapping → Type 0
BlocksFrom least [] = Unit {0}
BlocksFrom least (m ∷ ms) = (least ≤ m.virtual_block) × BlocksFrom (m.virtual_block + 1) ms

-- what the cursors give of an image are the devices of its meaning
pub record GivesPool (image : List (List ℕ)) : Type 0 where
  -- the rows are its devices, and below their roots are the mappings of each
  pub devices : (thin_meaning image).devices ≡ map (device_of image) (pool_rows image)
  pub ids : IdsFrom 0 (pool_rows image)
  pub blocks : AllByRecursion (λ (row : DeviceRow). BlocksFrom 0 (mappings_below image row.root)) (pool_rows image)
  -- the roots are in the image
  pub mapping_root : (thin_fields (block_at image 0)).mapping_root < length image
  pub details_root : (thin_fields (block_at image 0)).details_root < length image
  pub roots : AllByRecursion (λ (row : DeviceRow). row.root < length image) (pool_rows image)
  -- the data blocks are in the pool, so that the runs are given as they are
  pub within : AllByRecursion (λ (row : DeviceRow). AllByRecursion (λ (m : Mapping). m.data_block < (thin_fields (block_at image 0)).data_map.blocks) (mappings_below image row.root)) (pool_rows image)
  pub runs : AllByRecursion (λ (row : DeviceRow). map spelled (runs_below image row.root) ≡ joined_runs (mappings_below image row.root)) (pool_rows image)

-- the words of its line
abbrev pub details_of_row : DeviceRow → Details
details_of_row row = record {
  id = row.id;
  mapped = row.details.mapped;
  transaction = row.details.transaction;
  created = row.details.created;
  snapped = row.details.snapped;
}

-- its line, and those of its runs
abbrev pub row_lines : List (List ℕ) → DeviceRow → List Line
row_lines image row = device_line (details_of_row row) ∷ map map_line (map spelled (runs_below image row.root))

-- the words of a pool's line
abbrev pub super_head : ThinSuper → Head
super_head fields = record {
  uuid = fields.uuid;
  time = fields.time;
  transaction = fields.transaction;
  block_size = fields.block_size;
  data_blocks = fields.data_map.blocks;
}

-- the lines of a pool with this superblock
abbrev pub super_lines : List (List ℕ) → ThinSuper → List Line
super_lines image fields =
    first_line ∷ pool_line (super_head fields) ∷ (flat_map (row_lines image) (super_rows image fields) ++ (end_line ∷ []))
