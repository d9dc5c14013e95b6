-- Trusted base.
-- What a walk sees of a format: a block is looked at in a role, and names other blocks, each with a
-- role. All that is said of walks, of order and of references is said over any such record.
-- What a block names: other blocks, each in a role.
-- Trees over a graph: how deep they are, and which keys stand below a node.
use Rattle.std.specs.Prelude.{ℕ, Bool, ◌==◌, ◌||◌, not, nat_lt, if◌then◌else◌, List, [], ◌∷◌, zero, suc, ◌+◌, ◌*◌, ◌/◌, ◌%◌, ◌&&◌, map, filter, count_by, true, length, Option, Some, None}
use Rattle.std.specs.List.{list_any, range_with_len, flat_map, slice_get, list_all}
use Rattle.std.specs.Option.{unwrap_or}
use Rattle.pd_kinds.specs.declared.rule.Rule.{Rule}

-- an edge: the role in which a block is named, and the block
pub record Edge : Type 0 where
  pub role : ℕ
  pub block : ℕ

abbrev pub edge_of : ℕ → ℕ → Edge
edge_of role block = record { role = role; block = block }

-- an edge that 0 leaves out
abbrev pub optional_edge : ℕ → ℕ → List Edge
optional_edge role block = if block == 0 then [] else edge_of role block ∷ []

-- whether a block lies outside the metadata: it isn't from 1 to nr - 1
abbrev pub is_outside : ℕ → ℕ → Bool
is_outside nr block = (block == 0) || not (nat_lt block nr)

-- whether an edge names a block outside the metadata
unfoldable pub has_edge_outside : ℕ → List Edge → Bool
has_edge_outside nr edges = list_any (λ (edge : Edge). is_outside nr edge.block) edges

-- a format as it is walked: each function takes a role, the place of a block, and its bytes
pub record Graph : Type 0 where
  -- the number of roles
  pub roles : ℕ
  -- the number of metadata blocks, and of data blocks
  pub nr : ℕ
  pub data_blocks : ℕ
  -- whether the block breaks the rule
  pub bad : ℕ → ℕ → List ℕ → Rule → Bool
  -- whether the role is that of a tree's nodes
  pub is_tree : ℕ → Bool
  -- whether the block is an inner node of a tree
  pub is_inner : ℕ → ℕ → List ℕ → Bool
  -- the blocks that it names, with their roles
  pub edges : ℕ → ℕ → List ℕ → List Edge
  -- the keys of a node of a tree
  pub keys : ℕ → ℕ → List ℕ → List ℕ
  -- the data blocks that it names
  pub data_refs : ℕ → ℕ → List ℕ → List ℕ

-- an image is a list of blocks
abbrev pub block_at : List (List ℕ) → ℕ → List ℕ
block_at image b = unwrap_or (slice_get image b) []

-- a block in a role is one number, so that numbers ascend by block and then by role
abbrev pub pair : ℕ → ℕ → ℕ
pair block role = 16 * block + role

abbrev pub block_of : ℕ → ℕ
block_of p = p / 16

abbrev pub role_of : ℕ → ℕ
role_of p = p % 16

-- the edges, the data blocks, the own keys of a pair, and whether it is an inner node
abbrev pub edges_of : Graph → List (List ℕ) → ℕ → List Edge
edges_of graph image p = graph.edges (role_of p) (block_of p) (block_at image (block_of p))

abbrev pub data_refs_of : Graph → List (List ℕ) → ℕ → List ℕ
data_refs_of graph image p = graph.data_refs (role_of p) (block_of p) (block_at image (block_of p))

abbrev pub own_keys : Graph → List (List ℕ) → ℕ → List ℕ
own_keys graph image p = graph.keys (role_of p) (block_of p) (block_at image (block_of p))

abbrev pub is_inner_pair : Graph → List (List ℕ) → ℕ → Bool
is_inner_pair graph image p = graph.is_inner (role_of p) (block_of p) (block_at image (block_of p))

-- the pairs that a pair leads to
unfoldable pub next : Graph → List (List ℕ) → ℕ → List ℕ
next graph image p = map (λ (edge : Edge). pair edge.block edge.role) (edges_of graph image p)

-- whether at most k steps lead from the first pair to the pair; there are n pairs
unfoldable pub reached_from : ℕ → (ℕ → List ℕ) → ℕ → ℕ → ℕ → Bool
reached_from n step first zero p = p == first
reached_from n step first (suc k) p =
    reached_from n step first k p
    || list_any (λ q. reached_from n step first k q && list_any (λ t. t == p) (step q)) (range_with_len 0 n)

-- whether the pair is reached from the first pair: no path needs more steps than there are pairs
abbrev pub is_reached_from : Graph → List (List ℕ) → ℕ → ℕ → Bool
is_reached_from graph image first p = reached_from (16 * graph.nr) (next graph image) first (16 * graph.nr) p

-- the pairs that are reached from the first pair, ascending
abbrev pub nodes_from : Graph → List (List ℕ) → ℕ → List ℕ
nodes_from graph image first = filter (is_reached_from graph image first) (range_with_len 0 (16 * graph.nr))

-- whether the pair is reached: from pair 0, the superblock
unfoldable pub is_reached : Graph → List (List ℕ) → ℕ → Bool
is_reached graph image p = is_reached_from graph image 0 p

-- the reachable pairs, ascending
unfoldable pub nodes : Graph → List (List ℕ) → List ℕ
nodes graph image = filter (is_reached graph image) (range_with_len 0 (16 * graph.nr))

-- the references: block 0, and the blocks of all edges of the reachable pairs
unfoldable pub references : Graph → List (List ℕ) → List ℕ
references graph image =
    0 ∷ flat_map (λ p. map (λ (edge : Edge). edge.block) (edges_of graph image p)) (nodes graph image)

-- how often a metadata block is referred to
unfoldable pub meta_count : Graph → List (List ℕ) → ℕ → ℕ
meta_count graph image b = count_by (λ r. r == b) (references graph image)

-- how often a data block is referred to
unfoldable pub data_count : Graph → List (List ℕ) → ℕ → ℕ
data_count graph image d = count_by (λ r. r == d) (flat_map (data_refs_of graph image) (nodes graph image))

-- the children of an inner node; other blocks have none
unfoldable pub children : Graph → List (List ℕ) → ℕ → List ℕ
children graph image p = if is_inner_pair graph image p then next graph image p else []

-- whether a chain of so many inner edges starts at the pair
unfoldable pub has_chain : (ℕ → List ℕ) → ℕ → ℕ → Bool
has_chain down zero p = true
has_chain down (suc j) p = list_any (has_chain down j) (down p)

-- a pair is deep where a chain of 64 inner edges starts at it
unfoldable pub is_deep : Graph → List (List ℕ) → ℕ → Bool
is_deep graph image p = has_chain (children graph image) 64 p

-- what stands in the leaves that at most j inner edges lead to, the children from first to last
unfoldable pub gathered : {X : Type 0} → (ℕ → Bool) → (ℕ → List ℕ) → (ℕ → List X) → ℕ → ℕ → List X
gathered inner down own zero p = if inner p then [] else own p
gathered inner down own (suc j) p = if inner p then flat_map (gathered inner down own j) (down p) else own p

-- the keys below a node, or those of a leaf itself
unfoldable pub keys_below : Graph → List (List ℕ) → ℕ → List ℕ
keys_below graph image p =
    gathered (is_inner_pair graph image) (children graph image) (own_keys graph image) 63 p

-- keys stand below a child: there are some, none is below its key, and none at or above the next one
abbrev pub is_child_in_range : ℕ → Option ℕ → List ℕ → Bool
is_child_in_range low None keys = not (length keys == 0) && list_all (λ k. not (nat_lt k low)) keys
is_child_in_range low (Some high) keys =
    not (length keys == 0) && (list_all (λ k. not (nat_lt k low)) keys && list_all (λ k. nat_lt k high) keys)

-- each child of a node is in range, by the node's keys and the keys below each child
unfoldable pub are_children_in_range : List ℕ → List (List ℕ) → Bool
are_children_in_range (low ∷ high ∷ lows) (keys ∷ rest) =
    is_child_in_range low (Some high) keys && are_children_in_range (high ∷ lows) rest
are_children_in_range (low ∷ []) (keys ∷ rest) = is_child_in_range low None keys
are_children_in_range [] rest = true
are_children_in_range (low ∷ lows) [] = true

-- an inner node is in range where each of its children is
unfoldable pub is_in_range : Graph → List (List ℕ) → ℕ → Bool
is_in_range graph image p =
    are_children_in_range (own_keys graph image p) (map (keys_below graph image) (children graph image p))
