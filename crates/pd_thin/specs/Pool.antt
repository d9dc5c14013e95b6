-- What the rules of a whole pool are looked at over.
-- The copies of a thin pool's superblock: the superblock itself, in role 0, and the held copy of it, in role 1.
use Rattle.std.specs.Prelude.{◌≡◌, ℕ, ◌==◌, if◌then◌else◌, List, [], ◌∷◌, Bool}
use Rattle.pd_kinds.specs.Graph.{Graph, block_at, Edge}
use Rattle.pd_kinds.specs.Stages.{IsReached}
use Rattle.pd_kinds.specs.ThinFormat.{thin_fields, thin_graph, thin_super_bad, thin_super_edges, thin_held_bad, held_edges}
use Rattle.pd_kinds.specs.Trees.{entries_below, keys_of}
use Rattle.pd_kinds.specs.Whole.{Roots, WholeTest, roots_in, is_not_counting, device_test, mapped_tests}
use Rattle.pd_kinds.specs.InOrder.{AreInOrder}
use Rattle.pd_kinds.specs.declared.rule.Rule.{Rule}
use Rattle.pd_kinds.specs.declared.rule.Rule.TheVariants as r
use Rattle.pd_graph.specs.declared.audit.Audit.{Audit}
use Rattle.pd_tree.specs.Search.{HasThinRoots, HasThinTrees}
use Rattle.pd_check.specs.Known.{IsKnown}

-- the index of the data bitmaps counts from 0 to the last bitmap
abbrev pub index_test : Graph → List (List ℕ) → ℕ → ℕ → WholeTest
index_test graph image root bitmaps = record {
  block = root;
  rule = r.Index;
  fails = is_not_counting (keys_of (entries_below graph image 16 5 root)) bitmaps;
}

-- the tests of a mapping tree and of the details tree beside it
abbrev pub pool_tests : Graph → List (List ℕ) → Roots → List WholeTest
pool_tests graph image roots = device_test graph image roots ∷ mapped_tests graph image roots

-- and those of the held copy, where there is one
abbrev pub held_tests : Graph → List (List ℕ) → ℕ → List WholeTest
held_tests graph image held = if held == 0 then [] else pool_tests graph image (roots_in (block_at image held))

-- an image in order that an audit knows, with the trees of a thin pool
pub record IsKnownPool (graph : Graph) (image : List (List ℕ)) (audit : Audit) : Type 0 where
  pub known : IsKnown graph image audit
  pub ordered : AreInOrder graph image
  pub trees : HasThinTrees graph

-- the roots of a mapping tree and of the details tree beside it are reached
pub record AreReached (graph : Graph) (image : List (List ℕ)) (roots : Roots) : Type 0 where
  pub mapping : IsReached graph image roots.mapping 2
  pub details : IsReached graph image roots.details 4

-- all roots are reached: those of the superblock, the held copy, and its roots
pub record IsReady (first : List ℕ) (image : List (List ℕ)) (audit : Audit) : Type 0 where
  pub first_block : block_at image 0 ≡ first
  pub pool : IsKnownPool (thin_graph first) image audit
  pub start : IsReached (thin_graph first) image 0 0
  pub roots : HasThinRoots (thin_graph first) image (thin_fields first)
  pub held : ((thin_fields first).held_root ≡ 0 → ⊥) → IsReached (thin_graph first) image (thin_fields first).held_root 1
  pub held_roots : ((thin_fields first).held_root ≡ 0 → ⊥) → AreReached (thin_graph first) image (roots_in (block_at image (thin_fields first).held_root))

abbrev pub super_copy_rules : ℕ → ℕ → ℕ → List ℕ → Rule → Bool
super_copy_rules nr role place block = if role == 0 then thin_super_bad nr block else thin_held_bad nr place block

abbrev pub super_copy_edges : ℕ → List ℕ → List Edge
super_copy_edges role block = if role == 0 then thin_super_edges (thin_fields block) else held_edges block
