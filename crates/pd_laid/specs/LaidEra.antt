-- Trusted base.
-- How an era target is laid: the era array, an empty tree of writesets, the metadata map. Roles are those of an
-- era target's format.
use Rattle.std.specs.Prelude.{ℕ, ◌+◌, List, [], ◌∷◌, ◌++◌, length}
use Rattle.pd_kinds.specs.EraFormat.{EraFields, writesets_tree, era_super_block}
use Rattle.pd_kinds.specs.Meaning.{EraMeaning}
use Rattle.pd_laid.specs.Laid.{tree_root, LaidBlock, Laid, named_by, tree_of, laid_tree, laid_array, array_root, laid_meta_map, meta_overflow_root}

-- the era array, from block 1 on
unfoldable pub era_blocks : EraMeaning → List LaidBlock
era_blocks m = laid_array 5 4 1 m.eras

-- the tree of archived writesets, which is an empty leaf
abbrev pub writesets_at : EraMeaning → ℕ
writesets_at m = 1 + length (era_blocks m)

unfoldable pub writeset_blocks : EraMeaning → List LaidBlock
writeset_blocks m = laid_tree 2 (tree_of writesets_tree) (writesets_at m) []

-- all parts up to the metadata map, and where that begins
unfoldable pub era_parts : EraMeaning → List LaidBlock
era_parts m = era_blocks m ++ writeset_blocks m

abbrev pub meta_map_at : EraMeaning → ℕ
meta_map_at m = writesets_at m + length (writeset_blocks m)

-- the roots that the superblock names, up to the metadata map's
abbrev pub array_root_of : EraMeaning → ℕ
array_root_of m = array_root 4 1 m.eras

abbrev pub writesets_root : EraMeaning → ℕ
writesets_root m = tree_root 12 (writesets_at m) []

-- what block 0 and the parts name up to the metadata map: block 0 counts once
unfoldable pub era_named : EraMeaning → List ℕ
era_named m = 0 ∷ writesets_root m ∷ array_root_of m ∷ named_by (era_parts m)

unfoldable pub meta_map_blocks : EraMeaning → ℕ → List LaidBlock
meta_map_blocks m n = laid_meta_map 7 n (meta_map_at m) (era_named m)

-- the fields of the superblock, on a device of n blocks
unfoldable pub era_laid_fields : EraMeaning → ℕ → EraFields
era_laid_fields m n = record {
  flags = 0;
  uuid = m.uuid;
  version = 1;
  meta_map = record {
    blocks = n;
    allocated = meta_map_at m + length (meta_map_blocks m n);
    bitmap_root = meta_map_at m;
    overflow_root = meta_overflow_root n (meta_map_at m) (era_named m);
  };
  block_size = m.block_size;
  meta_block_size = 8;
  blocks = m.blocks;
  era = m.era;
  current_bits = 0;
  current_root = 0;
  writesets_root = writesets_root m;
  array_root = array_root_of m;
  snap_root = 0;
}

-- what is laid of an era target on a device of n blocks
unfoldable pub laid_era : EraMeaning → ℕ → Laid
laid_era m n = record { super_block = era_super_block (era_laid_fields m n); blocks = era_parts m ++ meta_map_blocks m n }
