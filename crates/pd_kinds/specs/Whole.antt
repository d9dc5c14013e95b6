-- Trusted base.
-- The rules that speak of the whole image, each charged to a block.
use Rattle.std.specs.Prelude.{ℕ, ◌+◌, ◌/◌, ◌%◌, ◌^◌, Bool, true, false, ◌==◌, ◌&&◌, ◌||◌, not, nat_lt, if◌then◌else◌, List, [], ◌∷◌, ◌++◌, map, filter, length}
use Rattle.std.specs.List.{list_any, flat_map, range_with_len}
use Rattle.std.specs.Str.{bytes_eq}
use Rattle.pd_kinds.specs.declared.rule.Rule.{Rule}
use Rattle.pd_kinds.specs.Rule.{same_rule}
use Rattle.pd_kinds.specs.Node.{Entry}
use Rattle.pd_kinds.specs.Array.{word_count, max_words}
use Rattle.pd_kinds.specs.Bitmap.{bitmaps_for}
use Rattle.pd_kinds.specs.Graph.{Graph, block_at, block_of, role_of, nodes, meta_count}
use Rattle.pd_kinds.specs.Layout.{leaf_entries}
use Rattle.pd_kinds.specs.Trees.{entries_below, keys_of, words_of}
use Rattle.pd_kinds.specs.ThinFormat.{thin_fields}
use Rattle.pd_kinds.specs.CacheFormat.{cache_fields, has_dirty_bits}
use Rattle.pd_kinds.specs.EraFormat.{era_fields, writeset_bits, writeset_root}
use Rattle.pd_kinds.specs.declared.rule.Rule.TheVariants as r
use Rattle.pd_kinds.specs.ThinRoles as thin_role
use Rattle.pd_kinds.specs.CacheRoles as cache_role
use Rattle.pd_kinds.specs.EraRoles as era_role

-- a rule that is looked at for the whole image: the block that it is charged to, and whether it fails
pub record WholeTest : Type 0 where
  pub block : ℕ
  pub rule : Rule
  pub fails : Bool

-- whether a block breaks a rule by these tests
unfoldable pub whole_bad : List WholeTest → ℕ → Rule → Bool
whole_bad tests b wanted =
    list_any (λ (t : WholeTest). t.fails && ((t.block == b) && same_rule t.rule wanted)) tests

-- whether the keys aren't 0 to n - 1
abbrev pub is_not_counting : List ℕ → ℕ → Bool
is_not_counting keys n = not (bytes_eq keys (range_with_len 0 n))

-- Index, at a bitmap: more than one edge leads to it. Bitmaps have one of these roles
unfoldable pub bitmap_tests : Graph → List (List ℕ) → (ℕ → Bool) → List WholeTest
bitmap_tests graph image is_bitmap =
    map (λ p. record { block = block_of p; rule = r.Index; fails = nat_lt 1 (meta_count graph image (block_of p)) })
    (filter (λ p. is_bitmap (role_of p)) (nodes graph image))

-- the roots of a mapping tree and of the details tree beside it
pub record Roots : Type 0 where
  pub mapping : ℕ
  pub details : ℕ

-- those of a superblock or its copy
abbrev pub roots_in : List ℕ → Roots
roots_in block = record { mapping = (thin_fields block).mapping_root; details = (thin_fields block).details_root }

-- those of the superblock, and of the held one
unfoldable pub thin_roots : List (List ℕ) → List Roots
thin_roots image =
    let held = (thin_fields (block_at image 0)).held_root in
    roots_in (block_at image 0) ∷ (if held == 0 then [] else roots_in (block_at image held) ∷ [])

-- the entries of a pool's trees
abbrev pub top_entries : Graph → List (List ℕ) → ℕ → List Entry
top_entries graph image root = entries_below graph image 8 thin_role.devices root

abbrev pub mapping_entries : Graph → List (List ℕ) → ℕ → List Entry
mapping_entries graph image root = entries_below graph image 8 thin_role.mappings root

abbrev pub details_entries : Graph → List (List ℕ) → ℕ → List Entry
details_entries graph image root = entries_below graph image 24 thin_role.details root

abbrev pub data_index_entries : Graph → List (List ℕ) → List Entry
data_index_entries graph image = entries_below graph image 16 thin_role.data_index (thin_fields (block_at image 0)).data_map.bitmap_root

-- the number of mapped blocks in a device's details
abbrev pub mapped_number : ℕ → ℕ
mapped_number value = value % 2 ^ 64

-- Mapped, at the root of a device's mappings: the number in its details isn't that of its entries
unfoldable pub mapped_tests : Graph → List (List ℕ) → Roots → List WholeTest
mapped_tests graph image roots =
    flat_map (λ (top : Entry).
    map (λ (details : Entry). record {
      block = top.value;
      rule = r.Mapped;
      fails = not (mapped_number details.value == length (mapping_entries graph image top.value));
    })
    (filter (λ (details : Entry). details.key == top.key) (details_entries graph image roots.details)))
    (top_entries graph image roots.mapping)

-- Device, at a details root: its keys aren't those of the mapping root beside it
unfoldable pub device_test : Graph → List (List ℕ) → Roots → WholeTest
device_test graph image roots = record {
  block = roots.details;
  rule = r.Device;
  fails = not (bytes_eq (keys_of (details_entries graph image roots.details)) (keys_of (top_entries graph image roots.mapping)));
}

-- the rules of a thin pool's whole image
unfoldable pub thin_whole : Graph → List (List ℕ) → List WholeTest
thin_whole graph image =
    record {
      block = (thin_fields (block_at image 0)).data_map.bitmap_root;
      rule = r.Index;
      fails = is_not_counting (keys_of (data_index_entries graph image)) (bitmaps_for graph.data_blocks);
    }
    ∷ (bitmap_tests graph image (λ role. (role == thin_role.data_bitmap) || (role == thin_role.meta_bitmap))
    ++ (map (device_test graph image) (thin_roots image)
    ++ flat_map (mapped_tests graph image) (thin_roots image)))

-- an array: the role and the root of its tree, the size of its words, and the lengths that it must have
pub record Array : Type 0 where
  pub role : ℕ
  pub root : ℕ
  pub size : ℕ
  pub lengths : List ℕ

-- whether each block but the last is full
unfoldable pub are_full : List (List ℕ) → ℕ → List Entry → Bool
are_full image size [] = true
are_full image size (entry ∷ []) = true
are_full image size (entry ∷ another ∷ entries) =
    (word_count size (block_at image entry.value) == max_words size) && are_full image size (another ∷ entries)

-- Index, at an array's root: the block indices don't count from 0, or a block but the last isn't full
unfoldable pub is_array_index_bad : Graph → List (List ℕ) → Array → Bool
is_array_index_bad graph image a =
    let entries = entries_below graph image 8 a.role a.root in
    is_not_counting (keys_of entries) (length entries) || not (are_full image a.size entries)

-- the words of an array
abbrev pub array_words : Graph → List (List ℕ) → Array → List ℕ
array_words graph image a = words_of a.size image (entries_below graph image 8 a.role a.root)

-- Index and, where it holds, Length at an array's root
unfoldable pub array_whole : Graph → List (List ℕ) → Array → List WholeTest
array_whole graph image a =
    record { block = a.root; rule = r.Index; fails = is_array_index_bad graph image a }
    ∷ map (λ n. record {
      block = a.root;
      rule = r.Length;
      fails = not (is_array_index_bad graph image a) && not (length (array_words graph image a) == n);
    })
    a.lengths

-- an array that a root of 0 leaves out
abbrev pub optional_array : ℕ → ℕ → ℕ → List ℕ → List Array
optional_array role root size lengths =
    if root == 0 then [] else record { role = role; root = root; size = size; lengths = lengths } ∷ []

-- the arrays of a cache
abbrev pub mapping_array : List (List ℕ) → Array
mapping_array image = record {
  role = cache_role.mapping_node;
  root = (cache_fields (block_at image 0)).mapping_root;
  size = 8;
  lengths = (cache_fields (block_at image 0)).blocks ∷ [];
}

-- its dirty bits, 64 in a word, which version 2 has
abbrev pub dirty_array : List (List ℕ) → Array
dirty_array image = record {
  role = cache_role.dirty_node;
  root = (cache_fields (block_at image 0)).dirty_root;
  size = 8;
  lengths = ((cache_fields (block_at image 0)).blocks + 63) / 64 ∷ [];
}

unfoldable pub cache_arrays : List (List ℕ) → List Array
cache_arrays image =
    let fields = cache_fields (block_at image 0) in
    mapping_array image
    ∷ (optional_array cache_role.hint_node fields.hint_root 4 []
    ++ (optional_array cache_role.discard_node fields.discard_root 8 []
    ++ (if has_dirty_bits fields.version then dirty_array image ∷ [] else [])))

-- a word of the mapping array: bit 0 says that it is valid, in version 1 bit 1 that it is dirty, the origin is above
abbrev pub is_valid_word : ℕ → Bool
is_valid_word word = word % 2 == 1

abbrev pub is_dirty_word : ℕ → Bool
is_dirty_word word = word / 2 % 2 == 1

abbrev pub origin_of_word : ℕ → ℕ
origin_of_word word = word / 2 ^ 16

-- whether a number comes twice
unfoldable pub has_repeat : List ℕ → Bool
has_repeat [] = false
has_repeat (x ∷ xs) = list_any (λ y. y == x) xs || has_repeat xs

-- the rules of a cache's whole image; Origin: two valid entries have one origin
unfoldable pub cache_whole : Graph → List (List ℕ) → List WholeTest
cache_whole graph image =
    record {
      block = (mapping_array image).root;
      rule = r.Origin;
      fails = has_repeat (map origin_of_word (filter is_valid_word (array_words graph image (mapping_array image))));
    }
    ∷ (bitmap_tests graph image (λ role. role == cache_role.meta_bitmap)
    ++ flat_map (array_whole graph image) (cache_arrays image))

-- the entries of all reached leaves of archived writesets, those of a snapshot too
unfoldable pub reached_writesets : Graph → List (List ℕ) → List Entry
reached_writesets graph image =
    flat_map (λ p. leaf_entries 12 (block_at image (block_of p))) (filter (λ p. role_of p == era_role.writesets) (nodes graph image))

-- a writeset's bits are an array of words of 64 bits
abbrev pub writeset_array : ℕ → ℕ → Array
writeset_array bits root = record { role = era_role.bit_node; root = root; size = 8; lengths = (bits + 63) / 64 ∷ [] }

-- the arrays of an era target: the era array, that of the snapshot, and the bits of the writesets
unfoldable pub era_arrays : Graph → List (List ℕ) → List Array
era_arrays graph image =
    let fields = era_fields (block_at image 0) in
    record { role = era_role.era_node; root = fields.array_root; size = 4; lengths = fields.blocks ∷ [] }
    ∷ ((if fields.snap_root == 0
    then []
    else record { role = era_role.era_node; root = (era_fields (block_at image fields.snap_root)).array_root; size = 4; lengths = [] } ∷ [])
    ++ ((if fields.current_root == 0 then [] else writeset_array fields.current_bits fields.current_root ∷ [])
    ++ map (λ (e : Entry). writeset_array (writeset_bits e.value) (writeset_root e.value)) (reached_writesets graph image)))

-- the rules of an era target's whole image
unfoldable pub era_whole : Graph → List (List ℕ) → List WholeTest
era_whole graph image =
    bitmap_tests graph image (λ role. role == era_role.meta_bitmap) ++ flat_map (array_whole graph image) (era_arrays graph image)
