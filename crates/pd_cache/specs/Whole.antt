-- What the rules of a whole cache are looked at over.
-- The superblock of a cache, in role 0: a cache has no other copy of it.
use Rattle.std.specs.Prelude.{ℕ, ◌+◌, ◌==◌, ◌/◌, if◌then◌else◌, List, [], ◌∷◌, ◌++◌, map, filter, length, Bool}
use Rattle.std.specs.List.{flat_map}
use Rattle.pd_kinds.specs.CacheFormat.{CacheFields, has_dirty_bits, cache_fields, cache_super_bad, cache_super_edges}
use Rattle.pd_kinds.specs.Graph.{Graph, Edge}
use Rattle.pd_kinds.specs.Trees.{entries_below, words_of}
use Rattle.pd_kinds.specs.Whole.{Array, WholeTest, array_whole, bitmap_tests, has_repeat, is_valid_word, optional_array, origin_of_word}
use Rattle.pd_kinds.specs.InOrder.{AreInOrder}
use Rattle.pd_kinds.specs.declared.rule.Rule.{Rule}
use Rattle.pd_kinds.specs.declared.rule.Rule.TheVariants as r
use Rattle.pd_array.specs.declared.array.Word.TheVariants.{Four, Eight}
use Rattle.pd_graph.specs.declared.audit.Audit.{Audit}
use Rattle.pd_graph.specs.Audit.{blocks_of}
use Rattle.pd_tree.specs.Below.{nodes_below}
use Rattle.pd_tree.specs.Search.{HasCacheRoots, HasCacheTrees}
use Rattle.pd_check.specs.Refs.{number_in}
use Rattle.pd_check.specs.Known.{IsKnown}
use Rattle.pd_check.specs.declared.array_rules.ArrayRoles.{ArrayRoles}
use Rattle.pd_check.specs.Arrays.{array_of, kind_reads}

-- the arrays of a cache: mappings, hints, discarded blocks, dirty blocks
abbrev pub mappings : ArrayRoles
mappings = record { nodes = 1; blocks = 2; word = Eight }

abbrev pub hints : ArrayRoles
hints = record { nodes = 3; blocks = 4; word = Four }

abbrev pub discards : ArrayRoles
discards = record { nodes = 5; blocks = 6; word = Eight }

abbrev pub dirty_bits : ArrayRoles
dirty_bits = record { nodes = 10; blocks = 11; word = Eight }

-- the arrays that there are
abbrev pub arrays : List ArrayRoles
arrays = mappings ∷ hints ∷ discards ∷ dirty_bits ∷ []

-- the dirty bits that version 2 has, 64 in a word
abbrev pub dirty_arrays : CacheFields → List Array
dirty_arrays fields =
    if has_dirty_bits fields.version then array_of dirty_bits fields.dirty_root ((fields.blocks + 63) / 64 ∷ []) ∷ [] else []

-- those that a superblock names
abbrev pub arrays_named : CacheFields → List Array
arrays_named fields =
    array_of mappings fields.mapping_root (fields.blocks ∷ [])
    ∷ (optional_array 3 fields.hint_root 4 [] ++ (optional_array 5 fields.discard_root 8 [] ++ dirty_arrays fields))

-- Origin, at the root of the mapping array: two valid words have one origin
abbrev pub origin_test : Graph → List (List ℕ) → ℕ → WholeTest
origin_test graph image root = record {
  block = root;
  rule = r.Origin;
  fails = has_repeat (map origin_of_word (filter is_valid_word (words_of 8 image (entries_below graph image 8 1 root))));
}

-- all rules of the whole image, by the superblock's fields
unfoldable pub tests_named : Graph → List (List ℕ) → CacheFields → List WholeTest
tests_named graph image fields =
    origin_test graph image fields.mapping_root ∷ (bitmap_tests graph image (λ role. role == 8) ++ flat_map (array_whole graph image) (arrays_named fields))

-- an image in order that an audit knows, with the trees of a cache
pub record IsKnownCache (graph : Graph) (image : List (List ℕ)) (audit : Audit) : Type 0 where
  pub known : IsKnown graph image audit
  pub ordered : AreInOrder graph image
  pub trees : HasCacheTrees graph

-- and its roots are reached
pub record IsReady (graph : Graph) (image : List (List ℕ)) (audit : Audit) (fields : CacheFields) : Type 0 where
  pub cache : IsKnownCache graph image audit
  pub roots : HasCacheRoots graph image fields

-- how many blocks are read at the most to mark all arrays, and to find an origin that comes twice
abbrev pub arrays_reads : Audit → ℕ
arrays_reads audit = kind_reads audit mappings + (kind_reads audit hints + (kind_reads audit discards + kind_reads audit dirty_bits))

abbrev pub origin_reads : Audit → List (List ℕ) → ℕ → ℕ
origin_reads audit image root = length (nodes_below 8 image 63 root) + number_in audit 2 (blocks_of audit)

abbrev pub super_copy_rules : ℕ → ℕ → ℕ → List ℕ → Rule → Bool
super_copy_rules nr role place block = cache_super_bad nr block

abbrev pub super_copy_edges : ℕ → List ℕ → List Edge
super_copy_edges role block = cache_super_edges (cache_fields block)
