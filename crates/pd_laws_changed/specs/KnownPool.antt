-- What is known of a pool without a fault up to the stage Order: its format keeps the laws, and all that it names is reached.
-- What holds of free data blocks into which others are moved.
use Rattle.std.specs.Prelude.{ℕ, List, ◌≡◌, ◌+◌, ◌≤◌, ◌<◌, ◌==◌, false, [], ◌∷◌, length}
use Rattle.std.specs.List.{AllByRecursion, list_any}
use Rattle.pd_kinds.specs.Graph.{Edge, block_at}
use Rattle.pd_kinds.specs.Lawful.{IsLawful}
use Rattle.pd_kinds.specs.Node.{Entry}
use Rattle.pd_kinds.specs.Stages.{IsReached}
use Rattle.pd_kinds.specs.ThinFormat.{thin_graph, thin_fields}
use Rattle.pd_kinds.specs.Whole.{top_entries}
use Rattle.pd_kinds.specs.InOrder.{AreInOrder}
use Rattle.pd_kinds.specs.Meaning.{ThinPool}
use Rattle.pd_grammar.specs.Need.{mapped_data}
use Rattle.pd_answers.specs.Shrinks.{sources}
use Rattle.pd_tree.specs.Search.{HasThinRoots}

pub record IsKnown (image : List (List ℕ)) : Type 0 where
  pub lawful : IsLawful (thin_graph (block_at image 0))
  pub ordered : AreInOrder (thin_graph (block_at image 0)) image
  pub roots : HasThinRoots (thin_graph (block_at image 0)) image (thin_fields (block_at image 0))
  pub start : IsReached (thin_graph (block_at image 0)) image 0 0
  pub edges : (b role : ℕ) → IsReached (thin_graph (block_at image 0)) image b role
      → AllByRecursion (λ (e : Edge). IsReached (thin_graph (block_at image 0)) image e.block e.role) ((thin_graph (block_at image 0)).edges role b (block_at image b))
  pub devices : (b : ℕ) → IsReached (thin_graph (block_at image 0)) image b 2
      → AllByRecursion (λ (e : Entry). IsReached (thin_graph (block_at image 0)) image e.value 3) (top_entries (thin_graph (block_at image 0)) image b)

-- no mapping names any of these blocks
abbrev pub AreUnnamed : ThinPool → List ℕ → Type 0
AreUnnamed m free = AllByRecursion (λ d. list_any (λ b. b == d) (mapped_data m) ≡ false) free

-- they are below the new end
abbrev pub AreBelow : ℕ → List ℕ → Type 0
AreBelow end free = AllByRecursion (λ d. d < end) free

-- they ascend from one on
abbrev pub Ascend : ℕ → List ℕ → Type 0
Ascend least [] = Unit {0}
Ascend least (d ∷ ds) = (least ≤ d) × Ascend (d + 1) ds

-- free blocks: unnamed, below the new end, ascending
pub record AreFree (m : ThinPool) (end : ℕ) (free : List ℕ) : Type 0 where
  pub unnamed : AreUnnamed m free
  pub below : AreBelow end free
  pub ascend : Ascend 0 free

-- there is a block below the new end for each that is moved, and the new end isn't past the old one
pub record IsMoving (m : ThinPool) (end : ℕ) (free : List ℕ) : Type 0 where
  pub below : AreBelow end free
  pub enough : length (sources m end) ≤ length free
  pub end_within : end ≤ m.data_blocks
