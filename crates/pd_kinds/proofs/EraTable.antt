-- The table of an era target's roles keeps the laws.
use Rattle.std.proofs.Common.{ℕ, ◌<◌, ◌≤◌, ◌^◌, false, not, nat_lt, List, [], ◌∷◌, ◌++◌, arith}
use Rattle.pd_kinds.specs.declared.limits.TheConstants.{MAX_META_BLOCKS}
use Rattle.pd_kinds.specs.Graph.{Edge, optional_edge}
use Rattle.pd_kinds.specs.EraFormat.{EraFields, era_fields, era_super_edges, snap_edges, era_super_tests, era_super_bad, era_snap_bad, writeset_root, era_layout}
use Rattle.pd_kinds.specs.Layout.{copy, graph_of}
use Rattle.pd_kinds.specs.Lawful.{IsLawful}
use Rattle.pd_kinds.proofs.SoundLemmas.{IsSound, IsSoundSuper, tests_after_two, edges_inside, super_holds}
use Rattle.pd_kinds.proofs.LayoutLemmas.{IsLater, IsKeptBy, table_lawful, at_each, bitmap_kept, array_kept, index_kept, copy_kept, all_optional, length-optional}
use Rattle.pd_kinds.proofs.TreeLemmas.{plain_kept, naming_kept}

-- what is known of a sound superblock
pub super_sound : (blocks : ℕ) (block : List ℕ) → IsSound (era_super_bad blocks block)
    → IsSoundSuper blocks (era_fields block).meta_map.blocks (era_super_edges (era_fields block))
unfolding era_super_bad era_super_tests
super_sound blocks block sound =
    let tests = tests_after_two _ _ _ _ (era_super_tests blocks block) sound in
    super_holds blocks (era_fields block).meta_map.blocks _ _ tests.1.0 tests.1.0 tests.0

-- the edges behind those to the snapshot and to the bits of the current writeset
abbrev behind_current : EraFields → List Edge
behind_current fields =
    record { role = 5; block = fields.array_root }
    ∷ record { role = 7; block = fields.meta_map.bitmap_root }
    ∷ record { role = 9; block = fields.meta_map.overflow_root }
    ∷ []

abbrev behind_snap : EraFields → List Edge
behind_snap fields = record { role = 2; block = fields.writesets_root } ∷ (optional_edge 3 fields.current_root ++ behind_current fields)

-- the superblock
super_kept : (nr data_blocks : ℕ) → IsKeptBy 10 nr data_blocks 0 (copy (λ place block. era_super_bad nr block) (λ block. era_super_edges (era_fields block)))
super_kept nr data_blocks =
    copy_kept 10 nr data_blocks 0 _ _
    (λ block. let fields = era_fields block in
    omega (arith, length-optional 1 fields.snap_root (behind_snap fields), length-optional 3 fields.current_root (behind_current fields)))
    (λ place block sound. (super_sound nr block sound).inside)
    (λ block. let fields = era_fields block in
    all_optional (IsLater 10 0) 1 fields.snap_root (behind_snap fields) (search arith) (
      search arith,
      all_optional (IsLater 10 0) 3 fields.current_root (behind_current fields) (search arith) (search arith),
    ))

-- the metadata snapshot
snap_kept : (nr data_blocks : ℕ) → IsKeptBy 10 nr data_blocks 1 (copy (era_snap_bad nr) snap_edges)
unfolding era_snap_bad
snap_kept nr data_blocks =
    copy_kept 10 nr data_blocks 1 _ _ (λ block. omega arith)
    (λ place block sound.
    let tests = tests_after_two _ _ _ _ _ sound in
    edges_inside nr nr (snap_edges block) (omega arith) tests.0)
    (λ block. search arith)

-- each role's layout is kept
kept : (nr data_blocks : ℕ) → nr ≤ MAX_META_BLOCKS → (role : ℕ) → role < 10 → IsKeptBy 10 nr data_blocks role (era_layout nr role)
unfolding era_layout
kept nr data_blocks small role h =
    let superblock = super_kept nr data_blocks in
    let snapshot = snap_kept nr data_blocks in
    let writesets = naming_kept 10 nr data_blocks 2 12 3 (λ e. writeset_root e.value) (λ e. not (nat_lt e.key (2 ^ 32))) (omega arith) (omega arith) (omega arith) in
    let bit_tree = naming_kept 10 nr data_blocks 3 8 4 (λ e. e.value) (λ e. false) (omega arith) (omega arith) (omega arith) in
    let bits = array_kept 10 nr data_blocks 4 8 in
    let era_tree = naming_kept 10 nr data_blocks 5 8 6 (λ e. e.value) (λ e. false) (omega arith) (omega arith) (omega arith) in
    let eras = array_kept 10 nr data_blocks 6 4 in
    let index = index_kept 10 nr data_blocks 7 8 small (omega arith) (omega arith) in
    let counts = bitmap_kept 10 nr data_blocks 8 in
    let overflow = plain_kept 10 nr data_blocks 9 4 (omega arith) (omega arith) in
    at_each (λ role. IsKeptBy 10 nr data_blocks role (era_layout nr role)) 10
    (superblock, (snapshot, (writesets, (bit_tree, (bits, (era_tree, (eras, (index, (counts, (overflow, tt))))))))))
    role h

-- so the format keeps the laws for any number of metadata and data blocks
pub era_table : (nr data_blocks : ℕ) → 1 ≤ nr → nr ≤ MAX_META_BLOCKS → IsLawful (graph_of 10 nr data_blocks (era_layout nr))
era_table nr data_blocks some few = table_lawful 10 nr data_blocks _ (omega arith) (omega arith) some few (kept nr data_blocks few)
