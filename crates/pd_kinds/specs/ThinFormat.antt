-- Trusted base.
-- What a block of a thin pool's metadata is in each role ("drivers/md/dm-thin-metadata.c").
-- The thin superblock: its fields, its local rules, and the block that is written for given fields.
-- Offsets and sizes are those of struct thin_disk_superblock of "drivers/md/dm-thin-metadata.c" and of
-- struct disk_sm_root of "drivers/md/persistent-data/dm-space-map-common.h".
use Rattle.std.specs.Prelude.{ℕ, Bool, ◌==◌, ◌&&◌, ◌||◌, not, nat_lt, List, [], ◌∷◌, ◌++◌, ◌/◌, ◌%◌, ◌^◌}
use Rattle.pd_kinds.specs.Graph.{Edge, optional_edge, has_edge_outside, Graph}
use Rattle.pd_kinds.specs.Super.{map_table, map_numbers, super_block, super_rules}
use Rattle.pd_kinds.specs.declared.kind.Kind.TheVariants.{Thin}
use Rattle.pd_kinds.specs.declared.superblocks.ThinSuper.{ThinSuper}
use Rattle.pd_kinds.specs.declared.rule.Rule.{Rule}
use Rattle.pd_kinds.specs.Field.{Row, bytes_at, le, rows_at, written, zeros}
use Rattle.pd_kinds.specs.Image.{is_meta_size_bad, max_data_blocks}
use Rattle.pd_kinds.specs.Rule.{Test}
use Rattle.pd_kinds.specs.Layout.{Layout, copy, tree, bitmap, index, plain_tree, tree_to, layouts, graph_of}
use Rattle.pd_kinds.specs.ThinRoles as thin_role
use Rattle.pd_kinds.specs.declared.rule.Rule.TheVariants as r

-- the fields of a thin superblock, but for the checksum, the place and the magic
abbrev pub ThinFields : Type 0
ThinFields = ThinSuper

-- the table of the superblock: each field by what is had of a number, or of bytes, at an offset and of a size
abbrev pub thin_table : (ℕ → ℕ → ℕ) → (ℕ → ℕ → List ℕ) → ThinFields
thin_table number bytes = record {
  flags = number 4 4;
  uuid = bytes 16 16;
  version = number 40 4;
  time = number 44 4;
  transaction = number 48 8;
  held_root = number 56 8;
  data_map = map_table number 64;
  meta_map = map_table number 192;
  mapping_root = number 320 8;
  details_root = number 328 8;
  block_size = number 336 4;
  meta_block_size = number 340 4;
  meta_blocks = number 344 8;
  compat = number 352 4;
  compat_ro = number 356 4;
  incompat = number 360 4;
}

-- the fields that stand in a block
abbrev pub thin_fields : List ℕ → ThinFields
thin_fields block = thin_table (le block) (bytes_at block)

-- the numbers among the fields, in a row
abbrev pub thin_numbers : ThinFields → List ℕ
thin_numbers f =
    f.flags ∷ f.version ∷ f.time ∷ f.transaction ∷ f.held_root
    ∷ (map_numbers f.data_map
    ++ (map_numbers f.meta_map
    ++ (f.mapping_root ∷ f.details_root ∷ f.block_size ∷ f.meta_block_size ∷ f.meta_blocks
    ∷ f.compat ∷ f.compat_ro ∷ f.incompat ∷ [])))

-- the blocks that a thin superblock names, with their roles
abbrev pub thin_super_edges : ThinFields → List Edge
thin_super_edges fields =
    optional_edge thin_role.held fields.held_root
    ++ (record { role = thin_role.devices; block = fields.mapping_root }
    ∷ record { role = thin_role.details; block = fields.details_root }
    ∷ record { role = thin_role.data_index; block = fields.data_map.bitmap_root }
    ∷ record { role = thin_role.data_overflow; block = fields.data_map.overflow_root }
    ∷ record { role = thin_role.meta_index; block = fields.meta_map.bitmap_root }
    ∷ record { role = thin_role.meta_overflow; block = fields.meta_map.overflow_root }
    ∷ [])

-- whether a thin pool's sizes are out of range: those of the metadata, or more than 2 ^ 40 data blocks
unfoldable pub are_thin_sizes_bad : ℕ → ThinFields → Bool
are_thin_sizes_bad device_blocks fields =
    is_meta_size_bad device_blocks fields.meta_map.blocks || nat_lt max_data_blocks fields.data_map.blocks

-- the rules of a thin superblock that are looked at each by itself; pointers only where the sizes hold
unfoldable pub thin_super_tests : ℕ → List ℕ → List Test
thin_super_tests device_blocks block =
    let fields = thin_fields block in
    let sizes_bad = are_thin_sizes_bad device_blocks fields in
    record { rule = r.Pointer; fails = not sizes_bad && has_edge_outside fields.meta_map.blocks (thin_super_edges fields) }
    ∷ record { rule = r.Size; fails = sizes_bad }
    ∷ record { rule = r.Features; fails = not (fields.incompat == 0) }
    ∷ record { rule = r.Version; fails = not (fields.version == 2) }
    ∷ record { rule = r.Place; fails = not (le block 8 8 == 0) }
    ∷ []

-- the rules that the thin superblock of a device of so many blocks breaks
unfoldable pub thin_super_bad : ℕ → List ℕ → Rule → Bool
thin_super_bad device_blocks block = super_rules Thin block (thin_super_tests device_blocks block)

-- the rows of the numbers
abbrev pub thin_rows : ThinFields → List Row
thin_rows fields =
    rows_at (thin_numbers (thin_table (λ offset size. offset) (λ offset size. [])))
    (thin_numbers (thin_table (λ offset size. size) (λ offset size. []))) (thin_numbers fields)

-- the thin superblock of these fields, for block 0: every other byte is 0
unfoldable pub thin_super_block : ThinFields → List ℕ
thin_super_block fields = super_block Thin fields.uuid (written zeros (thin_rows fields))

-- of a held superblock copy only the two roots of trees count
abbrev pub thin_held_edges : ThinFields → List Edge
thin_held_edges fields =
    record { role = thin_role.devices; block = fields.mapping_root }
    ∷ record { role = thin_role.details; block = fields.details_root }
    ∷ []

abbrev pub held_edges : List ℕ → List Edge
held_edges block = thin_held_edges (thin_fields block)

-- the rules of a held superblock copy that are looked at each by itself
abbrev pub thin_held_tests : ℕ → ℕ → List ℕ → List Test
thin_held_tests nr place block =
    record { rule = r.Pointer; fails = has_edge_outside nr (held_edges block) }
    ∷ record { rule = r.Place; fails = not (le block 8 8 == place) }
    ∷ []

-- the rules that a held superblock copy in its place breaks
unfoldable pub thin_held_bad : ℕ → ℕ → List ℕ → Rule → Bool
thin_held_bad nr place block = super_rules Thin block (thin_held_tests nr place block)

-- a mapping's data block, which lies below the pool's number of data blocks
abbrev pub mapped_block : ℕ → ℕ
mapped_block value = value / 2 ^ 24

-- the time of a mapping
abbrev pub mapped_time : ℕ → ℕ
mapped_time value = value % 2 ^ 24

abbrev pub mappings_tree : ℕ → Layout
mappings_tree data_blocks = tree (record {
  size = 8;
  leaf_edges = λ e. [];
  leaf_data = λ e. mapped_block e.value ∷ [];
  is_beyond = λ e. not (nat_lt (mapped_block e.value) data_blocks);
})

-- the layout of each role, in a pool of so many metadata and data blocks
unfoldable pub thin_layout : ℕ → ℕ → ℕ → Layout
thin_layout nr data_blocks role =
    layouts role (
    copy (λ place block. thin_super_bad nr block) (λ block. thin_super_edges (thin_fields block))
    ∷ copy (thin_held_bad nr) held_edges
    ∷ tree_to 8 thin_role.mappings (λ v. v)
    ∷ mappings_tree data_blocks
    ∷ plain_tree 24
    ∷ tree_to 16 thin_role.data_bitmap (λ v. v % 2 ^ 64)
    ∷ bitmap
    ∷ plain_tree 4
    ∷ index thin_role.meta_bitmap
    ∷ bitmap
    ∷ plain_tree 4
    ∷ [])

-- a pool's format, by its superblock
unfoldable pub thin_graph : List ℕ → Graph
thin_graph super =
    graph_of thin_role.roles (thin_fields super).meta_map.blocks (thin_fields super).data_map.blocks
    (thin_layout (thin_fields super).meta_map.blocks (thin_fields super).data_map.blocks)
