-- Trusted base.
-- A cache's metadata, versions 1 and 2 (struct cache_disk_superblock of "drivers/md/dm-cache-metadata.c"):
-- the superblock's fields and rules, and what a block is in each role.
use Rattle.std.specs.Prelude.{ℕ, Bool, ◌==◌, ◌&&◌, ◌||◌, not, if◌then◌else◌, List, [], ◌∷◌, ◌++◌, slice_index}
use Rattle.pd_kinds.specs.declared.kind.Kind.TheVariants.{Cache}
use Rattle.pd_kinds.specs.declared.superblocks.CacheSuper.{CacheSuper}
use Rattle.pd_kinds.specs.declared.rule.Rule.{Rule}
use Rattle.pd_kinds.specs.Field.{Row, bytes_at, le, put_bytes, rows_at, written, zeros}
use Rattle.pd_kinds.specs.Rule.{Test}
use Rattle.pd_kinds.specs.Super.{super_block, super_rules, map_table, map_numbers}
use Rattle.pd_kinds.specs.Graph.{Edge, optional_edge, has_edge_outside, Graph}
use Rattle.pd_kinds.specs.Image.{is_meta_size_bad}
use Rattle.pd_kinds.specs.Layout.{Layout, copy, bitmap, index, array, plain_tree, tree_to, layouts, graph_of}
use Rattle.pd_kinds.specs.declared.rule.Rule.TheVariants as r
use Rattle.pd_kinds.specs.CacheRoles as cache_role

-- the fields of a cache superblock, but for the checksum, the place and the magic
abbrev pub CacheFields : Type 0
CacheFields = CacheSuper

-- the table of the superblock: each field by what is had of a number, or of bytes, at an offset and of a size
abbrev pub cache_table : (ℕ → ℕ → ℕ) → (ℕ → ℕ → List ℕ) → CacheFields
cache_table number bytes = record {
  flags = number 4 4;
  uuid = bytes 16 16;
  version = number 40 4;
  policy = bytes 44 16;
  hint_size = number 60 4;
  meta_map = map_table number 64;
  mapping_root = number 192 8;
  hint_root = number 200 8;
  discard_root = number 208 8;
  discard_size = number 216 8;
  discard_blocks = number 224 8;
  block_size = number 232 4;
  meta_block_size = number 236 4;
  blocks = number 240 4;
  compat = number 244 4;
  compat_ro = number 248 4;
  incompat = number 252 4;
  read_hits = number 256 4;
  read_misses = number 260 4;
  write_hits = number 264 4;
  write_misses = number 268 4;
  versions = number 272 4 ∷ number 276 4 ∷ number 280 4 ∷ [];
  dirty_root = number 284 8;
}

-- whether there is a dirty bitset: version 2 has it
abbrev pub has_dirty_bits : ℕ → Bool
has_dirty_bits version = version == 2

-- the root of the dirty bitset by the version; a version that has none has 0
abbrev pub dirty_root_in : ℕ → ℕ → ℕ
dirty_root_in version root = if has_dirty_bits version then root else 0

-- the fields, where the root of the dirty bitset stands in version 2 alone
abbrev pub by_version : CacheFields → CacheFields
by_version fields = record fields { dirty_root = dirty_root_in fields.version fields.dirty_root }

-- the fields that stand in a block
abbrev pub cache_fields : List ℕ → CacheFields
cache_fields block = by_version (cache_table (le block) (bytes_at block))

-- the numbers among the fields, in a row
abbrev pub cache_numbers : CacheFields → List ℕ
cache_numbers f =
    f.flags ∷ f.version ∷ f.hint_size
    ∷ (map_numbers f.meta_map
    ++ (f.mapping_root ∷ f.hint_root ∷ f.discard_root ∷ f.discard_size ∷ f.discard_blocks
    ∷ f.block_size ∷ f.meta_block_size ∷ f.blocks ∷ f.compat ∷ f.compat_ro ∷ f.incompat
    ∷ f.read_hits ∷ f.read_misses ∷ f.write_hits ∷ f.write_misses
    ∷ slice_index f.versions 0 ∷ slice_index f.versions 1 ∷ slice_index f.versions 2 ∷ f.dirty_root ∷ []))

-- the root of the dirty bitset, where there is one
abbrev pub dirty_edges : CacheFields → List Edge
dirty_edges fields = if has_dirty_bits fields.version then record { role = cache_role.dirty_node; block = fields.dirty_root } ∷ [] else []

-- the blocks that a cache superblock names, with their roles
abbrev pub cache_super_edges : CacheFields → List Edge
cache_super_edges fields =
    record { role = cache_role.mapping_node; block = fields.mapping_root }
    ∷ (optional_edge cache_role.hint_node fields.hint_root
    ++ (optional_edge cache_role.discard_node fields.discard_root
    ++ (record { role = cache_role.meta_index; block = fields.meta_map.bitmap_root }
    ∷ record { role = cache_role.meta_overflow; block = fields.meta_map.overflow_root }
    ∷ dirty_edges fields)))

-- whether a cache's sizes are out of range: those of the metadata, or a hint size that is neither 0 nor 4
unfoldable pub are_cache_sizes_bad : ℕ → CacheFields → Bool
are_cache_sizes_bad device_blocks fields =
    is_meta_size_bad device_blocks fields.meta_map.blocks || not (fields.hint_size == 0 || fields.hint_size == 4)

-- the rules of a cache superblock that are looked at each by itself; pointers only where the sizes hold
unfoldable pub cache_super_tests : ℕ → List ℕ → List Test
cache_super_tests device_blocks block =
    let fields = cache_fields block in
    let sizes_bad = are_cache_sizes_bad device_blocks fields in
    record { rule = r.Pointer; fails = not sizes_bad && has_edge_outside fields.meta_map.blocks (cache_super_edges fields) }
    ∷ record { rule = r.Size; fails = sizes_bad }
    ∷ record { rule = r.Features; fails = not (fields.incompat == 0) }
    ∷ record { rule = r.Version; fails = not (fields.version == 1 || fields.version == 2) }
    ∷ record { rule = r.Place; fails = not (le block 8 8 == 0) }
    ∷ []

-- the rules that the cache superblock of a device of so many blocks breaks
unfoldable pub cache_super_bad : ℕ → List ℕ → Rule → Bool
cache_super_bad device_blocks block = super_rules Cache block (cache_super_tests device_blocks block)

-- the rows of the numbers
abbrev pub cache_rows : CacheFields → List Row
cache_rows fields =
    rows_at (cache_numbers (cache_table (λ offset size. offset) (λ offset size. [])))
    (cache_numbers (cache_table (λ offset size. size) (λ offset size. []))) (cache_numbers fields)

-- the cache superblock of these fields, for block 0: every other byte is 0
unfoldable pub cache_super_block : CacheFields → List ℕ
cache_super_block fields = super_block Cache fields.uuid (put_bytes (written zeros (cache_rows fields)) 44 fields.policy)

-- the layout of each role, of so many metadata blocks
unfoldable pub cache_layout : ℕ → ℕ → Layout
cache_layout nr role =
    layouts role (
    copy (λ place block. cache_super_bad nr block) (λ block. cache_super_edges (cache_fields block))
    ∷ tree_to 8 cache_role.mapping_block (λ v. v)
    ∷ array 8
    ∷ tree_to 8 cache_role.hint_block (λ v. v)
    ∷ array 4
    ∷ tree_to 8 cache_role.discard_block (λ v. v)
    ∷ array 8
    ∷ index cache_role.meta_bitmap
    ∷ bitmap
    ∷ plain_tree 4
    ∷ tree_to 8 cache_role.dirty_block (λ v. v)
    ∷ array 8
    ∷ [])

-- a cache's format, by its superblock
unfoldable pub cache_graph : List ℕ → Graph
cache_graph super = graph_of cache_role.roles (cache_fields super).meta_map.blocks 0 (cache_layout (cache_fields super).meta_map.blocks)
