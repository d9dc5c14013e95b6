-- The data blocks that blocks name in one role, each distinct block once.
-- Blocks in a role that more than one reference leads to.
-- Blocks that are reached in one role, and what they name.
use Rattle.std.specs.Prelude.{◌≡◌, ℕ, ◌<◌, Bool, if◌then◌else◌, List, [], ◌&&◌, nat_lt, map, ◌==◌, nat_eq, length, filter, sum_by}
use Rattle.std.specs.List.{flat_map, range_with_len, count_by, AllByRecursion, IsDistinct}
use Rattle.pd_kinds.specs.Graph.{Graph, block_at, data_count, pair, Edge}
use Rattle.pd_kinds.specs.Whole.{WholeTest}
use Rattle.pd_kinds.specs.Layout.{Layout, index, graph_of}
use Rattle.pd_kinds.specs.Stages.{IsReached}
use Rattle.pd_kinds.specs.declared.rule.Rule.TheVariants as r
use Rattle.pd_count.specs.Counted.{Counted, count_of}
use Rattle.pd_graph.specs.declared.audit.Audit.{Audit}
use Rattle.pd_graph.specs.Marks.{has_bit}
use Rattle.pd_graph.specs.Audit.{roles_at, blocks_of, count_at}

-- in no other role does a block name data blocks
abbrev pub NamesDataIn : Graph → ℕ → Type 0
NamesDataIn graph role = (other place : ℕ) (block : List ℕ) → other < 16 → (other ≡ role → ⊥) → graph.data_refs other place block ≡ []

-- those that block b names, where it is among these pairs in the role
abbrev pub refs_at : Graph → List (List ℕ) → ℕ → (ℕ → Bool) → ℕ → List ℕ
refs_at graph image role pairs b = if pairs (pair b role) then graph.data_refs role b (block_at image b) else []

-- those that the blocks before block n name
unfoldable pub refs_before : Graph → List (List ℕ) → ℕ → (ℕ → Bool) → ℕ → List ℕ
refs_before graph image role pairs n = flat_map (refs_at graph image role pairs) (range_with_len 0 n)

-- those that all blocks name
abbrev pub refs_in : Graph → List (List ℕ) → ℕ → (ℕ → Bool) → List ℕ
refs_in graph image role pairs = refs_before graph image role pairs graph.nr

-- the counts of all references to data blocks
abbrev pub HasDataCounts : Counted → Graph → List (List ℕ) → Type 0
HasDataCounts counts graph image = (d : ℕ) → d < graph.data_blocks → count_of counts d ≡ data_count graph image d

-- how many blocks before block n an audit has in the role
unfoldable pub number_in : Audit → ℕ → ℕ → ℕ
number_in audit role n = count_by (λ b. has_bit (roles_at audit b) role) (range_with_len 0 n)

-- the block was met in the role, and more than one reference to it
abbrev pub is_shared : Audit → ℕ → ℕ → Bool
is_shared audit role b = has_bit (roles_at audit b) role && nat_lt 1 (count_at audit b)

-- such a block has the rule Index
abbrev pub shared_test : Audit → ℕ → ℕ → WholeTest
shared_test audit role b = record { block = b; rule = r.Index; fails = is_shared audit role b }

-- the tests of all blocks
unfoldable pub shared_tests : Audit → ℕ → List WholeTest
shared_tests audit role = map (shared_test audit role) (range_with_len 0 (blocks_of audit))

-- blocks in a role
pub record InRole : Type 0 where
  pub role : ℕ
  pub blocks : List ℕ

-- each of them is reached in the role, and none stands there twice
pub record AreReachedOnce (graph : Graph) (image : List (List ℕ)) (part : InRole) : Type 0 where
  pub reached : AllByRecursion (λ b. IsReached graph image b part.role) part.blocks
  pub once : IsDistinct nat_eq part.blocks

-- the blocks that an audit has in a role, of so many
unfoldable pub known_in : Audit → ℕ → ℕ → List ℕ
known_in audit role n = filter (λ b. has_bit (roles_at audit b) role) (range_with_len 0 n)

-- how many blocks there are in all parts
abbrev pub blocks_in : List InRole → ℕ
blocks_in parts = sum_by (λ (part : InRole). length part.blocks) parts

-- the blocks that edges lead to in a role
abbrev pub led_to : ℕ → List Edge → List ℕ
led_to role edges = map (λ (edge : Edge). edge.block) (filter (λ (edge : Edge). edge.role == role) edges)

-- the blocks that blocks in a role name in another one
unfoldable pub named_in : Graph → List (List ℕ) → InRole → ℕ → List ℕ
named_in graph image part role = flat_map (λ b. led_to role (graph.edges part.role b (block_at image b))) part.blocks

-- the format is a table of layouts, in which this role is that of an index block, which names bitmaps in another role
pub record IsIndexRole (graph : Graph) (role bitmaps : ℕ) : Type 0 where
  pub roles : ℕ
  pub nr : ℕ
  pub data_blocks : ℕ
  pub layout : ℕ → Layout
  pub is : graph ≡ graph_of roles nr data_blocks layout
  pub at : layout role ≡ index bitmaps
  pub few : role < 16
