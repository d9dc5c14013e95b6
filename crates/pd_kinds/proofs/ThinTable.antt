-- The table of a thin pool's roles keeps the laws.
use Rattle.std.proofs.Common.{inl, inr, ℕ, ◌%◌, ◌^◌, ◌<◌, ◌≤◌, false, List, refl, arith}
use Rattle.std.proofs.lemmas.Bool.{or_parts, not-false, ltb-false, ltb-true}
use Rattle.pd_kinds.specs.declared.limits.TheConstants.{MAX_META_BLOCKS}
use Rattle.pd_kinds.specs.Graph.{Edge}
use Rattle.pd_kinds.specs.ThinFormat.{thin_fields, thin_super_edges, thin_super_tests, thin_super_bad, are_thin_sizes_bad, held_edges, thin_held_bad, mapped_block, mappings_tree, thin_layout}
use Rattle.pd_kinds.specs.Image.{is_meta_size_bad, max_data_blocks}
use Rattle.pd_kinds.specs.Lawful.{IsLawful}
use Rattle.pd_kinds.specs.Layout.{copy, graph_of}
use Rattle.pd_kinds.proofs.SoundLemmas.{IsSound, IsSoundSuper, tests_after_two, edges_inside, super_holds}
use Rattle.pd_kinds.proofs.LayoutLemmas.{IsLater, IsKeptBy, table_lawful, at_each, bitmap_kept, index_kept, copy_kept, all_optional, length-optional}
use Rattle.pd_kinds.proofs.TreeLemmas.{tree_kept, plain_kept, naming_kept}

-- the data blocks of a sound superblock are few
pub few_data_blocks : (blocks : ℕ) (block : List ℕ) → IsSound (thin_super_bad blocks block) → (thin_fields block).data_map.blocks ≤ 2 ^ 40
unfolding thin_super_bad thin_super_tests are_thin_sizes_bad
few_data_blocks blocks block sound =
    let tests = tests_after_two _ _ _ _ (thin_super_tests blocks block) sound in
    ltb-false max_data_blocks (thin_fields block).data_map.blocks (or_parts (is_meta_size_bad blocks (thin_fields block).meta_map.blocks) _ tests.1.0).1

-- what is known of a sound superblock
pub super_sound : (blocks : ℕ) (block : List ℕ) → IsSound (thin_super_bad blocks block)
    → IsSoundSuper blocks (thin_fields block).meta_map.blocks (thin_super_edges (thin_fields block))
unfolding thin_super_bad thin_super_tests are_thin_sizes_bad
super_sound blocks block sound =
    let tests = tests_after_two _ _ _ _ (thin_super_tests blocks block) sound in
    super_holds blocks (thin_fields block).meta_map.blocks _ _ (or_parts (is_meta_size_bad blocks (thin_fields block).meta_map.blocks) _ tests.1.0).0 tests.1.0 tests.0

-- the edges behind that to the held copy
abbrev behind_held : List ℕ → List Edge
behind_held block = thin_super_edges (record (thin_fields block) { held_root = 0 })

-- the superblock
super_kept : (nr data_blocks : ℕ) → IsKeptBy 11 nr data_blocks 0 (copy (λ place block. thin_super_bad nr block) (λ block. thin_super_edges (thin_fields block)))
super_kept nr data_blocks =
    copy_kept 11 nr data_blocks 0 _ _ (λ block. omega (arith, length-optional 1 (thin_fields block).held_root (behind_held block)))
    (λ place block sound. (super_sound nr block sound).inside)
    (λ block. all_optional (IsLater 11 0) 1 (thin_fields block).held_root (behind_held block) (search arith) (search arith))

-- the held copy of it
held_kept : (nr data_blocks : ℕ) → IsKeptBy 11 nr data_blocks 1 (copy (thin_held_bad nr) held_edges)
unfolding thin_held_bad
held_kept nr data_blocks =
    copy_kept 11 nr data_blocks 1 _ _ (λ block. omega arith)
    (λ place block sound.
    let tests = tests_after_two _ _ _ _ _ sound in
    edges_inside nr nr (held_edges block) (omega arith) tests.0)
    (λ block. search arith)

-- the mappings of a device
mappings_kept : (nr data_blocks : ℕ) → IsKeptBy 11 nr data_blocks 3 (mappings_tree data_blocks)
mappings_kept nr data_blocks = tree_kept 11 nr data_blocks 3 0 1 _ (record {
  wide = omega arith;
  known = omega arith;
  edges_fit = inl refl;
  data_fit = inr (refl, omega arith);
  few_edges = λ e. omega arith;
  few_data = λ e. omega arith;
  later = λ e. tt;
  within = λ e holds. (ltb-true (mapped_block e.value) data_blocks (not-false _ holds), tt);
})

-- each role's layout is kept
kept : (nr data_blocks : ℕ) → nr ≤ MAX_META_BLOCKS → (role : ℕ) → role < 11 → IsKeptBy 11 nr data_blocks role (thin_layout nr data_blocks role)
unfolding thin_layout
kept nr data_blocks small role h =
    let superblock = super_kept nr data_blocks in
    let held = held_kept nr data_blocks in
    let devices = naming_kept 11 nr data_blocks 2 8 3 (λ e. e.value) (λ e. false) (omega arith) (omega arith) (omega arith) in
    let mappings = mappings_kept nr data_blocks in
    let details = plain_kept 11 nr data_blocks 4 24 (omega arith) (omega arith) in
    let index = naming_kept 11 nr data_blocks 5 16 6 (λ e. e.value % 2 ^ 64) (λ e. false) (omega arith) (omega arith) (omega arith) in
    let counts = bitmap_kept 11 nr data_blocks 6 in
    let overflow = plain_kept 11 nr data_blocks 7 4 (omega arith) (omega arith) in
    let own_index = index_kept 11 nr data_blocks 8 9 small (omega arith) (omega arith) in
    let own_counts = bitmap_kept 11 nr data_blocks 9 in
    let own_overflow = plain_kept 11 nr data_blocks 10 4 (omega arith) (omega arith) in
    at_each (λ role. IsKeptBy 11 nr data_blocks role (thin_layout nr data_blocks role)) 11
    (superblock, (held, (devices, (mappings, (details, (index, (counts, (overflow, (own_index, (own_counts, (own_overflow, tt)))))))))))
    role h

-- so the format keeps the laws for any number of blocks
pub thin_table : (nr data_blocks : ℕ) → 1 ≤ nr → nr ≤ MAX_META_BLOCKS → IsLawful (graph_of 11 nr data_blocks (thin_layout nr data_blocks))
thin_table nr data_blocks some few =
    table_lawful 11 nr data_blocks _ (omega arith) (omega arith) some few (kept nr data_blocks few)
