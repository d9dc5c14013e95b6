-- Trusted base.
-- An era target's metadata, version 1 (struct superblock_disk of "drivers/md/dm-era-target.c"): the
-- superblock's fields and rules, and what a block is in each role.
use Rattle.std.specs.Prelude.{ℕ, ◌/◌, ◌%◌, ◌^◌, Bool, ◌==◌, ◌&&◌, not, nat_lt, List, [], ◌∷◌, ◌++◌}
use Rattle.pd_kinds.specs.declared.kind.Kind.TheVariants.{Era}
use Rattle.pd_kinds.specs.declared.superblocks.EraSuper.{EraSuper}
use Rattle.pd_kinds.specs.declared.rule.Rule.{Rule}
use Rattle.pd_kinds.specs.Field.{Row, bytes_at, le, rows_at, written, zeros}
use Rattle.pd_kinds.specs.Rule.{Test}
use Rattle.pd_kinds.specs.Super.{super_block, super_rules, map_table, map_numbers}
use Rattle.pd_kinds.specs.Graph.{Edge, optional_edge, has_edge_outside, Graph}
use Rattle.pd_kinds.specs.Image.{is_meta_size_bad}
use Rattle.pd_kinds.specs.Layout.{Layout, copy, tree, bitmap, index, array, plain_tree, tree_to, layouts, graph_of}
use Rattle.pd_kinds.specs.declared.rule.Rule.TheVariants as r
use Rattle.pd_kinds.specs.EraRoles as era_role

-- the fields of an era superblock, but for the checksum, the place and the magic
abbrev pub EraFields : Type 0
EraFields = EraSuper

-- the table of the superblock: each field by what is had of a number, or of bytes, at an offset and of a size
abbrev pub era_table : (ℕ → ℕ → ℕ) → (ℕ → ℕ → List ℕ) → EraFields
era_table number bytes = record {
  flags = number 4 4;
  uuid = bytes 16 16;
  version = number 40 4;
  meta_map = map_table number 44;
  block_size = number 172 4;
  meta_block_size = number 176 4;
  blocks = number 180 4;
  era = number 184 4;
  current_bits = number 188 4;
  current_root = number 192 8;
  writesets_root = number 200 8;
  array_root = number 208 8;
  snap_root = number 216 8;
}

-- the fields that stand in a block
abbrev pub era_fields : List ℕ → EraFields
era_fields block = era_table (le block) (bytes_at block)

-- the numbers among the fields, in a row
abbrev pub era_numbers : EraFields → List ℕ
era_numbers f =
    f.flags ∷ f.version
    ∷ (map_numbers f.meta_map
    ++ (f.block_size ∷ f.meta_block_size ∷ f.blocks ∷ f.era ∷ f.current_bits
    ∷ f.current_root ∷ f.writesets_root ∷ f.array_root ∷ f.snap_root ∷ []))

-- the blocks that an era superblock names, with their roles
abbrev pub era_super_edges : EraFields → List Edge
era_super_edges fields =
    optional_edge era_role.snapshot fields.snap_root
    ++ (record { role = era_role.writesets; block = fields.writesets_root }
    ∷ (optional_edge era_role.bit_node fields.current_root
    ++ (record { role = era_role.era_node; block = fields.array_root }
    ∷ record { role = era_role.meta_index; block = fields.meta_map.bitmap_root }
    ∷ record { role = era_role.meta_overflow; block = fields.meta_map.overflow_root }
    ∷ [])))

-- of a metadata snapshot only the archived writesets and the era array count
abbrev pub era_snap_edges : EraFields → List Edge
era_snap_edges fields =
    record { role = era_role.writesets; block = fields.writesets_root }
    ∷ record { role = era_role.era_node; block = fields.array_root }
    ∷ []

abbrev pub snap_edges : List ℕ → List Edge
snap_edges block = era_snap_edges (era_fields block)

-- the rules of an era superblock that are looked at each by itself; pointers only where the size holds
unfoldable pub era_super_tests : ℕ → List ℕ → List Test
era_super_tests device_blocks block =
    let fields = era_fields block in
    let size_bad = is_meta_size_bad device_blocks fields.meta_map.blocks in
    record { rule = r.Pointer; fails = not size_bad && has_edge_outside fields.meta_map.blocks (era_super_edges fields) }
    ∷ record { rule = r.Size; fails = size_bad }
    ∷ record { rule = r.Version; fails = not (fields.version == 1) }
    ∷ record { rule = r.Place; fails = not (le block 8 8 == 0) }
    ∷ []

-- the rules that the era superblock of a device of so many blocks breaks
unfoldable pub era_super_bad : ℕ → List ℕ → Rule → Bool
era_super_bad device_blocks block = super_rules Era block (era_super_tests device_blocks block)

-- the rules of a metadata snapshot that are looked at each by itself
abbrev pub era_snap_tests : ℕ → ℕ → List ℕ → List Test
era_snap_tests nr place block =
    record { rule = r.Pointer; fails = has_edge_outside nr (snap_edges block) }
    ∷ record { rule = r.Place; fails = not (le block 8 8 == place) }
    ∷ []

-- the rules that a metadata snapshot in its place breaks
unfoldable pub era_snap_bad : ℕ → ℕ → List ℕ → Rule → Bool
era_snap_bad nr place block = super_rules Era block (era_snap_tests nr place block)

-- the rows of the numbers
abbrev pub era_rows : EraFields → List Row
era_rows fields =
    rows_at (era_numbers (era_table (λ offset size. offset) (λ offset size. [])))
    (era_numbers (era_table (λ offset size. size) (λ offset size. []))) (era_numbers fields)

-- the era superblock of these fields, for block 0: every other byte is 0
unfoldable pub era_super_block : EraFields → List ℕ
era_super_block fields = super_block Era fields.uuid (written zeros (era_rows fields))

-- a writeset's number of bits, and the root of its bits
abbrev pub writeset_bits : ℕ → ℕ
writeset_bits value = value % 2 ^ 32

abbrev pub writeset_root : ℕ → ℕ
writeset_root value = value / 2 ^ 32

-- the tree of the archived writesets, whose keys are eras
abbrev pub writesets_tree : Layout
writesets_tree = tree (record {
  size = 12;
  leaf_edges = λ e. record { role = era_role.bit_node; block = writeset_root e.value } ∷ [];
  leaf_data = λ e. [];
  is_beyond = λ e. not (nat_lt e.key (2 ^ 32));
})

-- the layout of each role, of so many metadata blocks
unfoldable pub era_layout : ℕ → ℕ → Layout
era_layout nr role =
    layouts role (
    copy (λ place block. era_super_bad nr block) (λ block. era_super_edges (era_fields block))
    ∷ copy (era_snap_bad nr) snap_edges
    ∷ writesets_tree
    ∷ tree_to 8 era_role.bit_block (λ v. v)
    ∷ array 8
    ∷ tree_to 8 era_role.era_block (λ v. v)
    ∷ array 4
    ∷ index era_role.meta_bitmap
    ∷ bitmap
    ∷ plain_tree 4
    ∷ [])

-- an era target's format, by its superblock
unfoldable pub era_graph : List ℕ → Graph
era_graph super = graph_of era_role.roles (era_fields super).meta_map.blocks 0 (era_layout (era_fields super).meta_map.blocks)
