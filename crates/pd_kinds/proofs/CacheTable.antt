-- The table of a cache's roles keeps the laws.
use Rattle.std.proofs.Common.{ℕ, ◌<◌, ◌≤◌, false, List, [], ◌∷◌, ◌++◌, length, arith}
use Rattle.std.specs.List.{AllByRecursion}
use Rattle.std.proofs.lemmas.Bool.{cond_both, or_parts}
use Rattle.pd_kinds.specs.declared.limits.TheConstants.{MAX_META_BLOCKS}
use Rattle.pd_kinds.specs.Graph.{Edge, optional_edge}
use Rattle.pd_kinds.specs.CacheFormat.{CacheFields, cache_fields, cache_super_edges, cache_super_tests, cache_super_bad, dirty_edges, has_dirty_bits, are_cache_sizes_bad, cache_layout}
use Rattle.pd_kinds.specs.Image.{is_meta_size_bad}
use Rattle.pd_kinds.specs.Layout.{copy, graph_of}
use Rattle.pd_kinds.specs.Lawful.{IsLawful}
use Rattle.pd_kinds.proofs.SoundLemmas.{IsSound, IsSoundSuper, tests_after_two, super_holds}
use Rattle.pd_kinds.proofs.LayoutLemmas.{IsLater, IsKeptBy, table_lawful, at_each, bitmap_kept, array_kept, index_kept, copy_kept, all_optional, length-optional}
use Rattle.pd_kinds.proofs.TreeLemmas.{plain_kept, naming_kept}

-- what is known of a sound superblock
pub super_sound : (blocks : ℕ) (block : List ℕ) → IsSound (cache_super_bad blocks block)
    → IsSoundSuper blocks (cache_fields block).meta_map.blocks (cache_super_edges (cache_fields block))
unfolding cache_super_bad cache_super_tests are_cache_sizes_bad
super_sound blocks block sound =
    let tests = tests_after_two _ _ _ _ (cache_super_tests blocks block) sound in
    let nr = (cache_fields block).meta_map.blocks in
    super_holds blocks nr _ _ (or_parts (is_meta_size_bad blocks nr) _ tests.1.0).0 tests.1.0 tests.0

-- the edges behind those to the hints and to the discarded blocks
abbrev behind_discards : CacheFields → List Edge
behind_discards fields =
    record { role = 7; block = fields.meta_map.bitmap_root } ∷ record { role = 9; block = fields.meta_map.overflow_root } ∷ dirty_edges fields

abbrev behind_hints : CacheFields → List Edge
behind_hints fields = optional_edge 5 fields.discard_root ++ behind_discards fields

-- what holds of the dirty bits' root, and of no edge, holds of the edge that version 2 has
by_dirty : (P : List Edge → Type 0) (fields : CacheFields) → P (record { role = 10; block = fields.dirty_root } ∷ []) → P [] → P (dirty_edges fields)
by_dirty P fields one none = cond_both (has_dirty_bits fields.version) (record { role = 10; block = fields.dirty_root } ∷ []) [] P (λ _. one) (λ _. none)

-- the superblock
super_kept : (nr data_blocks : ℕ) → IsKeptBy 12 nr data_blocks 0 (copy (λ place block. cache_super_bad nr block) (λ block. cache_super_edges (cache_fields block)))
super_kept nr data_blocks =
    copy_kept 12 nr data_blocks 0 _ _
    (λ block. let fields = cache_fields block in
    let few = by_dirty (λ edges. length edges ≤ 1) fields (omega arith) (omega arith) in
    omega (arith, few, length-optional 3 fields.hint_root (behind_hints fields), length-optional 5 fields.discard_root (behind_discards fields)))
    (λ place block sound. (super_sound nr block sound).inside)
    (λ block. let fields = cache_fields block in (
      search arith,
      all_optional (IsLater 12 0) 3 fields.hint_root (behind_hints fields) (search arith)
          (all_optional (IsLater 12 0) 5 fields.discard_root (behind_discards fields) (search arith)
          (search arith, (search arith, by_dirty (AllByRecursion (IsLater 12 0)) fields (search arith) tt))),
    ))

-- each role's layout is kept
kept : (nr data_blocks : ℕ) → nr ≤ MAX_META_BLOCKS → (role : ℕ) → role < 12 → IsKeptBy 12 nr data_blocks role (cache_layout nr role)
unfolding cache_layout
kept nr data_blocks small role h =
    let superblock = super_kept nr data_blocks in
    let mapping_tree = naming_kept 12 nr data_blocks 1 8 2 (λ e. e.value) (λ e. false) (omega arith) (omega arith) (omega arith) in
    let mappings = array_kept 12 nr data_blocks 2 8 in
    let hint_tree = naming_kept 12 nr data_blocks 3 8 4 (λ e. e.value) (λ e. false) (omega arith) (omega arith) (omega arith) in
    let hints = array_kept 12 nr data_blocks 4 4 in
    let discard_tree = naming_kept 12 nr data_blocks 5 8 6 (λ e. e.value) (λ e. false) (omega arith) (omega arith) (omega arith) in
    let discards = array_kept 12 nr data_blocks 6 8 in
    let index = index_kept 12 nr data_blocks 7 8 small (omega arith) (omega arith) in
    let counts = bitmap_kept 12 nr data_blocks 8 in
    let overflow = plain_kept 12 nr data_blocks 9 4 (omega arith) (omega arith) in
    let dirty_tree = naming_kept 12 nr data_blocks 10 8 11 (λ e. e.value) (λ e. false) (omega arith) (omega arith) (omega arith) in
    let dirty_bits = array_kept 12 nr data_blocks 11 8 in
    at_each (λ role. IsKeptBy 12 nr data_blocks role (cache_layout nr role)) 12
    (superblock, (mapping_tree, (mappings, (hint_tree, (hints, (discard_tree, (discards, (index, (counts, (overflow, (dirty_tree, (dirty_bits, tt))))))))))))
    role h

-- so the format keeps the laws for any number of metadata and data blocks
pub cache_table : (nr data_blocks : ℕ) → 1 ≤ nr → nr ≤ MAX_META_BLOCKS → IsLawful (graph_of 12 nr data_blocks (cache_layout nr))
cache_table nr data_blocks some few = table_lawful 12 nr data_blocks _ (omega arith) (omega arith) some few (kept nr data_blocks few)
