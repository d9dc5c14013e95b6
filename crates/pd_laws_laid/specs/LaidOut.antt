-- Blocks that are laid from block 0 on, as the graph of a format sees them.
-- A laid array as a format's graph sees it.
-- Nodes at the places from 0 on, each at a number of its own, that lead to one another.
-- The items that a tree can be laid of, and a laid tree as a format's graph sees it.
-- A laid metadata map as a format's graph sees it.
use Rattle.std.specs.Prelude.{◌≡◌, ℕ, ◌+◌, ◌<◌, ◌≤◌, ◌==◌, true, false, List, [], ◌∷◌, length, map, slice_index, ◌^◌, Some}
use Rattle.std.specs.List.{AllByRecursion, list_any, range_with_len}
use Rattle.pd_kinds.specs.declared.rule.Rule.{Rule}
use Rattle.pd_kinds.specs.Graph.{Edge, Graph, block_at, pair, edges_of, data_refs_of, is_inner_pair, nodes, meta_count, data_count, is_deep, is_in_range, edge_of, keys_below}
use Rattle.pd_kinds.specs.Stages.{IsReached}
use Rattle.pd_kinds.specs.Whole.{Array, array_words, is_array_index_bad}
use Rattle.pd_kinds.specs.Node.{Entry, is_ascending}
use Rattle.pd_kinds.specs.Layout.{Tree}
use Rattle.pd_kinds.specs.Trees.{entries_below, keys_of, stored_meta_in}
use Rattle.pd_laid.specs.Laid.{LaidBlock, Laid, named_by, data_named_by, count_in, array_root, laid_array, laid_tree, tree_root, laid_meta_map, meta_counts, meta_overflow, meta_overflow_root}

-- what holds of each element of a list, and of the place where it stands, from a place on
abbrev pub AllFrom : {X : Type 0} → (ℕ → X → Type 0) → ℕ → List X → Type 0
AllFrom P place [] = Unit {0}
AllFrom P place (x ∷ xs) = P place x × AllFrom P (place + 1) xs

-- the role of each place, where blocks are laid from block 0 on
unfoldable pub role_at : List LaidBlock → ℕ → ℕ
role_at blocks b = slice_index (map (λ (x : LaidBlock). x.role) blocks) b

-- an edge leads to a block below a place, and that is laid in the edge's role
pub record LeadsBelow (blocks : List LaidBlock) (limit : ℕ) (e : Edge) : Type 0 where
  pub from_one : 1 ≤ e.block
  pub below : e.block < limit
  pub role_is : role_at blocks e.block ≡ e.role

-- some laid block names the block
abbrev pub IsNamed : List LaidBlock → ℕ → Type 0
IsNamed blocks b = list_any (λ r. r == b) (named_by blocks) ≡ true

-- a laid block in its place, as the graph sees it: it breaks no local rule, it is in order, an inner node names
-- earlier blocks, and it names what is said of it
pub record IsSeen (graph : Graph) (image : List (List ℕ)) (place : ℕ) (x : LaidBlock) : Type 0 where
  pub known : x.role < graph.roles
  pub sound : (broken : Rule) → graph.bad x.role place (block_at image place) broken ≡ false
  pub shallow : is_deep graph image (pair place x.role) ≡ false
  pub in_range : is_inner_pair graph image (pair place x.role) ≡ true → is_in_range graph image (pair place x.role) ≡ true
  pub earlier : is_inner_pair graph image (pair place x.role) ≡ true → AllByRecursion (λ (e : Edge). e.block < place) x.edges
  pub edges_are : edges_of graph image (pair place x.role) ≡ x.edges
  pub data_are : data_refs_of graph image (pair place x.role) ≡ x.data_refs

-- a laid block that fits among the others: its edges lead to laid blocks, and some block names it
pub record IsFitting (graph : Graph) (image : List (List ℕ)) (blocks : List LaidBlock) (limit place : ℕ) (x : LaidBlock) : Type 0 where
  pub seen : IsSeen graph image place x
  pub leads : AllByRecursion (LeadsBelow blocks limit) x.edges
  pub named : 1 ≤ place → IsNamed blocks place

-- blocks that are laid from block 0 on, the superblock first
pub record IsLaidOut (graph : Graph) (image : List (List ℕ)) (blocks : List LaidBlock) : Type 0 where
  pub some : 1 ≤ length blocks
  pub super_role : role_at blocks 0 ≡ 0
  pub fits : length blocks ≤ graph.nr
  pub each : AllFrom (IsFitting graph image blocks (length blocks)) 0 blocks

-- Such blocks are all that is reached, each in its role, and in order; and as often as they name a block, it is
-- referred to, where block 0 counts once.
pub record AreLaidInOrder (graph : Graph) (image : List (List ℕ)) (blocks : List LaidBlock) : Type 0 where
  pub roles_small : (b : ℕ) → role_at blocks b < 16
  pub nodes_are : nodes graph image ≡ map (λ (b : ℕ). pair b (role_at blocks b)) (range_with_len 0 (length blocks))
  pub well_formed : (b role : ℕ) → IsReached graph image b role → (broken : Rule) → graph.bad role b (block_at image b) broken ≡ false
  pub one_role : (b role other : ℕ) → IsReached graph image b role → IsReached graph image b other → role ≡ other
  pub not_deep : (b role : ℕ) → IsReached graph image b role → is_deep graph image (pair b role) ≡ false
  pub in_range : (b role : ℕ) → IsReached graph image b role → is_inner_pair graph image (pair b role) ≡ true
      → is_in_range graph image (pair b role) ≡ true
  pub meta_counts : (b : ℕ) → meta_count graph image b ≡ count_in (0 ∷ named_by blocks) b
  pub data_counts : (d : ℕ) → data_count graph image d ≡ count_in (data_named_by blocks) d

-- the superblock as a laid block, with the edges that it has, and all that is laid
abbrev pub laid_super : List ℕ → List Edge → LaidBlock
laid_super block edges = record { role = 0; written = λ place. block; edges = edges; data_refs = [] }

abbrev pub all_laid : Laid → List Edge → List LaidBlock
all_laid laid edges = laid_super laid.super_block edges ∷ laid.blocks

-- a laid block stands in its place, which has its role, and what it names is named
pub record IsInPlace (image : List (List ℕ)) (blocks : List LaidBlock) (place : ℕ) (x : LaidBlock) : Type 0 where
  pub stands : block_at image place ≡ x.written place
  pub role_is : role_at blocks place ≡ x.role
  pub names : AllByRecursion (λ (e : Edge). IsNamed blocks e.block) x.edges

-- the array by its root, whatever lengths it must have
abbrev pub array_at : ℕ → ℕ → ℕ → List ℕ → List ℕ → Array
array_at role size place words lengths = record { role = role; root = array_root size place words; size = size; lengths = lengths }

-- its blocks fit among the others, so does an edge to its root; it is whole, and has these words
pub record IsArraySeen (graph : Graph) (image : List (List ℕ)) (blocks : List LaidBlock) (limit role size place : ℕ) (words : List ℕ) : Type 0 where
  pub fitting : AllFrom (IsFitting graph image blocks limit) place (laid_array role size place words)
  pub leads : LeadsBelow blocks limit (edge_of role (array_root size place words))
  pub whole : (lengths : List ℕ) → is_array_index_bad graph image (array_at role size place words lengths) ≡ false
  pub words_are : (lengths : List ℕ) → array_words graph image (array_at role size place words lengths) ≡ words

-- nodes numbered upwards by place: they lead to nodes alone, and to each but the first one from a node of a greater rank
pub record IsForest (n : ℕ) (step : ℕ → List ℕ) (at rank : ℕ → ℕ) (need top : ℕ) : Type 0 where
  pub some : 1 ≤ need
  pub first : at 0 ≡ 0
  pub ascending : (a b : ℕ) → a < b → b < need → at a < at b
  pub below : (b : ℕ) → b < need → at b < n
  pub bounded : (b : ℕ) → b < need → rank b < top
  pub closed : (b p : ℕ) → b < need → list_any (λ t. t == p) (step (at b)) ≡ true → (c : ℕ) × (c < need) × (p ≡ at c)
  pub named : (c : ℕ) → 1 ≤ c → c < need
      → (q : ℕ) × (q < need) × (rank c < rank q) × (list_any (λ t. t == at c) (step (at q)) ≡ true)

-- the keys ascend, each entry fits and lies in its range, and what it names are laid blocks below a place
pub record AreItems (blocks : List LaidBlock) (limit : ℕ) (t : Tree) (items : List Entry) : Type 0 where
  pub ascending : is_ascending (keys_of items) ≡ true
  pub keys_fit : AllByRecursion (λ (e : Entry). e.key < 2 ^ 64) items
  pub values_fit : AllByRecursion (λ (e : Entry). e.value < 256 ^ t.size) items
  pub in_range : AllByRecursion (λ (e : Entry). t.is_beyond e ≡ false) items
  pub leads : AllByRecursion (λ (e : Entry). AllByRecursion (LeadsBelow blocks limit) (t.leaf_edges e)) items

-- the items stand below a root
pub record IsRoot (graph : Graph) (image : List (List ℕ)) (size role root : ℕ) (items : List Entry) : Type 0 where
  pub entries_are : entries_below graph image size role root ≡ items
  pub keys_are : keys_below graph image (pair root role) ≡ keys_of items

-- a laid tree: its items stand below its root, its blocks fit among the others, and what its items name is named
pub record IsTreeSeen (graph : Graph) (image : List (List ℕ)) (blocks : List LaidBlock) (limit role : ℕ) (t : Tree) (place : ℕ) (items : List Entry) : Type 0 where
  pub root : IsRoot graph image t.size role (tree_root t.size place items) items
  pub fitting : AllFrom (IsFitting graph image blocks limit) place (laid_tree role t place items)
  pub named : AllByRecursion (λ (e : Entry). AllByRecursion (λ (edge : Edge). IsNamed blocks edge.block) (t.leaf_edges e)) items

-- its blocks fit among the others, so do edges to its two roots, and what is read of it as the stored count of a block is the count that was laid
pub record IsMetaMapSeen (graph : Graph) (image : List (List ℕ)) (blocks : List LaidBlock) (limit role n place : ℕ) (named : List ℕ) : Type 0 where
  pub fitting : AllFrom (IsFitting graph image blocks limit) place (laid_meta_map role n place named)
  pub index_leads : LeadsBelow blocks limit (edge_of role place)
  pub overflow_leads : LeadsBelow blocks limit (edge_of (role + 2) (meta_overflow_root n place named))
  pub overflow : entries_below graph image 4 (role + 2) (meta_overflow_root n place named) ≡ meta_overflow n named
  pub stored : (b : ℕ) → b < n → stored_meta_in image place (meta_overflow n named) b ≡ Some (meta_counts role n place named b)
