-- What the rules of a whole era target are looked at over.
-- The copies of an era target's superblock: the superblock itself, in role 0, and the metadata snapshot, in role 1.
use Rattle.std.specs.Prelude.{◌≡◌, ℕ, ◌+◌, ◌==◌, if◌then◌else◌, List, [], ◌∷◌, ◌++◌, map, Bool}
use Rattle.std.specs.List.{flat_map, range_with_len}
use Rattle.pd_kinds.specs.EraFormat.{EraFields, era_fields, writeset_bits, writeset_root, era_snap_bad, era_super_bad, era_super_edges, snap_edges}
use Rattle.pd_kinds.specs.Graph.{Graph, block_at, is_reached, pair, Edge}
use Rattle.pd_kinds.specs.Layout.{leaf_entries}
use Rattle.pd_kinds.specs.Node.{Entry, key_at, value_at}
use Rattle.pd_kinds.specs.Stages.{IsReached}
use Rattle.pd_kinds.specs.Whole.{Array, WholeTest, array_whole, bitmap_tests, reached_writesets, writeset_array}
use Rattle.pd_kinds.specs.InOrder.{AreInOrder}
use Rattle.pd_kinds.specs.declared.rule.Rule.{Rule}
use Rattle.pd_array.specs.declared.array.Word.TheVariants.{Four, Eight}
use Rattle.pd_graph.specs.declared.audit.Audit.{Audit}
use Rattle.pd_graph.specs.Audit.{blocks_of}
use Rattle.pd_tree.specs.Search.{HasEraRoots, HasEraTrees}
use Rattle.pd_check.specs.Refs.{number_in}
use Rattle.pd_check.specs.Known.{IsKnown}
use Rattle.pd_check.specs.declared.array_rules.ArrayRoles.{ArrayRoles}
use Rattle.pd_check.specs.Arrays.{array_of, kind_reads}

-- the arrays of an era target: the eras of the blocks, and the bits of a writeset
abbrev pub eras : ArrayRoles
eras = record { nodes = 5; blocks = 6; word = Four }

abbrev pub bits : ArrayRoles
bits = record { nodes = 3; blocks = 4; word = Eight }

-- the arrays that there are
abbrev pub arrays : List ArrayRoles
arrays = eras ∷ bits ∷ []

-- the eras that a metadata snapshot names, in this block or in none; they may have any length
abbrev pub snap_eras : List (List ℕ) → ℕ → List Array
snap_eras image snap = if snap == 0 then [] else array_of eras (era_fields (block_at image snap)).array_root [] ∷ []

-- the bits of the current writeset, which there may be
abbrev pub current_bits : ℕ → ℕ → List Array
current_bits number root = if root == 0 then [] else writeset_array number root ∷ []

-- the bits of an archived writeset
abbrev pub set_array : Entry → Array
set_array e = writeset_array (writeset_bits e.value) (writeset_root e.value)

-- the first entries of a leaf of archived writesets
unfoldable pub first_sets : List ℕ → ℕ → List Entry
first_sets block n = map (λ i. record { key = key_at block i; value = value_at 12 block i }) (range_with_len 0 n)

-- the archived writesets that block b has, where it is reached as a node of their tree
abbrev pub sets_at : Graph → List (List ℕ) → ℕ → List Entry
sets_at graph image b = if is_reached graph image (pair b 2) then leaf_entries 12 (block_at image b) else []

-- those of the blocks before block n
unfoldable pub sets_before : Graph → List (List ℕ) → ℕ → List Entry
sets_before graph image n = flat_map (sets_at graph image) (range_with_len 0 n)

-- the tests of the bits of such writesets
unfoldable pub set_tests : Graph → List (List ℕ) → List Entry → List WholeTest
set_tests graph image entries = flat_map (array_whole graph image) (map set_array entries)

-- the arrays that a superblock names, and those of the writesets
unfoldable pub arrays_named : Graph → List (List ℕ) → EraFields → List Array
arrays_named graph image fields =
    array_of eras fields.array_root (fields.blocks ∷ [])
    ∷ (snap_eras image fields.snap_root
    ++ (current_bits fields.current_bits fields.current_root ++ map set_array (reached_writesets graph image)))

-- all rules of the whole image, by the superblock's fields
unfoldable pub tests_named : Graph → List (List ℕ) → EraFields → List WholeTest
tests_named graph image fields =
    bitmap_tests graph image (λ role. role == 8) ++ flat_map (array_whole graph image) (arrays_named graph image fields)

-- an image in order that an audit knows, with the trees of an era target
pub record IsKnownEra (graph : Graph) (image : List (List ℕ)) (audit : Audit) : Type 0 where
  pub known : IsKnown graph image audit
  pub ordered : AreInOrder graph image
  pub trees : HasEraTrees graph

-- a metadata snapshot in this block is reached, and the eras that it names are
pub record IsSnap (graph : Graph) (image : List (List ℕ)) (snap : ℕ) : Type 0 where
  pub reached : IsReached graph image snap 1
  pub eras : IsReached graph image (era_fields (block_at image snap)).array_root 5

-- and its roots are reached
pub record IsReady (graph : Graph) (image : List (List ℕ)) (audit : Audit) (fields : EraFields) : Type 0 where
  pub era : IsKnownEra graph image audit
  pub roots : HasEraRoots graph image fields
  pub snap : (fields.snap_root ≡ 0 → ⊥) → IsSnap graph image fields.snap_root

-- how many blocks are read at the most: the snapshot, those of the eras, those of the bits, and the nodes of the trees
-- of archived writesets
abbrev pub snap_reads : ℕ → ℕ
snap_reads snap = if snap == 0 then 0 else 1

abbrev pub whole_reads : Audit → EraFields → ℕ
whole_reads audit fields =
    kind_reads audit eras + (snap_reads fields.snap_root + (kind_reads audit bits + number_in audit 2 (blocks_of audit)))

abbrev pub super_copy_rules : ℕ → ℕ → ℕ → List ℕ → Rule → Bool
super_copy_rules nr role place block = if role == 0 then era_super_bad nr block else era_snap_bad nr place block

abbrev pub super_copy_edges : ℕ → List ℕ → List Edge
super_copy_edges role block = if role == 0 then era_super_edges (era_fields block) else snap_edges block
