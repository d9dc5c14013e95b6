-- Trusted base.
-- Images without a fault up to the stage Order.
use Rattle.std.specs.Prelude.{◌≡◌, ℕ, true, false, List}
use Rattle.pd_kinds.specs.declared.kind.Kind.{Kind}
use Rattle.pd_kinds.specs.declared.kind.Kind.TheVariants.{Thin, Cache, Era}
use Rattle.pd_kinds.specs.declared.kind.Stage.{Stage}
use Rattle.pd_kinds.specs.declared.rule.Rule.{Rule}
use Rattle.pd_kinds.specs.Graph.{Graph, block_at, pair, is_inner_pair, is_deep, is_in_range}
use Rattle.pd_kinds.specs.Stages.{IsReached}
use Rattle.pd_kinds.specs.ThinFormat.{thin_graph}
use Rattle.pd_kinds.specs.CacheFormat.{cache_graph}
use Rattle.pd_kinds.specs.EraFormat.{era_graph}
use Rattle.pd_kinds.specs.declared.kind.Stage.TheVariants as stages

-- the format of an image of a kind, by its superblock
abbrev pub graph_of_kind : Kind → List (List ℕ) → Graph
graph_of_kind Thin image = thin_graph (block_at image 0)
graph_of_kind Cache image = cache_graph (block_at image 0)
graph_of_kind Era image = era_graph (block_at image 0)

-- a check up to this stage looks at the order of trees
abbrev pub LooksAtOrder : Stage → Type 0
LooksAtOrder stages.Super = ⊥
LooksAtOrder stages.Walk = ⊥
LooksAtOrder stages.Order = Unit {0}
LooksAtOrder stages.Whole = Unit {0}
LooksAtOrder stages.Counts = Unit {0}

-- no reached pair breaks a local rule, is deep or is out of range
pub record AreInOrder (graph : Graph) (image : List (List ℕ)) : Type 0 where
  pub well_formed : (b role : ℕ) → IsReached graph image b role → (broken : Rule) → graph.bad role b (block_at image b) broken ≡ false
  pub not_deep : (b role : ℕ) → IsReached graph image b role → is_deep graph image (pair b role) ≡ false
  pub in_range : (b role : ℕ) → IsReached graph image b role
      → is_inner_pair graph image (pair b role) ≡ true → is_in_range graph image (pair b role) ≡ true
