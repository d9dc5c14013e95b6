-- The laws that a format keeps, over all blocks. The walk and the settling rest on these alone.
use Rattle.std.specs.Prelude.{◌≡◌, ℕ, ◌<◌, ◌≤◌, true, false, List, [], length}
use Rattle.std.specs.List.{AllByRecursion}
use Rattle.pd_kinds.specs.declared.limits.TheConstants.{MAX_META_BLOCKS}
use Rattle.pd_kinds.specs.declared.rule.Rule.{Rule}
use Rattle.pd_kinds.specs.Graph.{Edge, Graph}
use Rattle.pd_kinds.specs.Node.{is_ascending}

-- an edge leads to a block from 1 to nr - 1, in a role that there is
pub record IsWithin (graph : Graph) (edge : Edge) : Type 0 where
  pub from_one : 1 ≤ edge.block
  pub below : edge.block < graph.nr
  pub known : edge.role < graph.roles

-- what holds of a block in a role
pub record KeepsLaws (graph : Graph) (role place : ℕ) (block : List ℕ) : Type 0 where
  -- a block with a bad rule names nothing, and has no keys
  pub bad_edges : (broken : Rule) → graph.bad role place block broken ≡ true → graph.edges role place block ≡ []
  pub bad_data : (broken : Rule) → graph.bad role place block broken ≡ true → graph.data_refs role place block ≡ []
  pub bad_keys : (broken : Rule) → graph.bad role place block broken ≡ true → graph.keys role place block ≡ []
  -- how much it names at the most
  pub edge_number : length (graph.edges role place block) ≤ 255
  pub data_number : length (graph.data_refs role place block) ≤ 254
  pub key_number : length (graph.keys role place block) ≤ 338
  -- where its edges lead
  pub within : AllByRecursion (IsWithin graph) (graph.edges role place block)
  pub inner_edges : graph.is_inner role place block ≡ true → AllByRecursion (λ (e : Edge). e.role ≡ role) (graph.edges role place block)
  pub other_edges : graph.is_inner role place block ≡ false → AllByRecursion (λ (e : Edge). role < e.role) (graph.edges role place block)
  pub data_within : AllByRecursion (λ d. d < graph.data_blocks) (graph.data_refs role place block)
  -- an inner node is a sound node of a tree, with a key for each edge, and at least one
  pub inner_tree : graph.is_inner role place block ≡ true → graph.is_tree role ≡ true
  pub inner_sound : graph.is_inner role place block ≡ true → (broken : Rule) → graph.bad role place block broken ≡ false
  pub inner_keys : graph.is_inner role place block ≡ true → length (graph.keys role place block) ≡ length (graph.edges role place block)
  pub inner_some : graph.is_inner role place block ≡ true → 1 ≤ length (graph.keys role place block)
  -- keys ascend, and only trees have them
  pub ascending : is_ascending (graph.keys role place block) ≡ true
  pub tree_keys : graph.is_tree role ≡ false → graph.keys role place block ≡ []

-- a lawful format
pub record IsLawful (graph : Graph) : Type 0 where
  pub some_role : 1 ≤ graph.roles
  pub few_roles : graph.roles ≤ 16
  pub some_block : 1 ≤ graph.nr
  pub few_blocks : graph.nr ≤ MAX_META_BLOCKS
  pub each : (role place : ℕ) (block : List ℕ) → role < graph.roles → KeepsLaws graph role place block
