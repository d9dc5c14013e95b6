-- What settling leaves.
-- Which nodes are good: they and all nodes below them are well, and none is too deep.
-- What holds while nodes are settled.
use Rattle.std.specs.Prelude.{◌≡◌, ℕ, zero, suc, ◌<◌, ◌==◌, Bool, true, false, ◌&&◌, ◌||◌, not, List, ◌≢◌, ◌+◌, ◌≤◌, ◌*◌, nat_lt, if◌then◌else◌, length, filter, Option, Some, None, slice_index}
use Rattle.std.specs.List.{list_all, list_any, range_with_len}
use Rattle.pd_kinds.specs.Graph.{Graph, block_at, block_of, pair, own_keys, is_inner_pair, children, is_in_range, role_of, is_reached, is_deep, keys_below}
use Rattle.pd_kinds.specs.declared.rule.Rule.{Rule}
use Rattle.pd_kinds.specs.Rule.{same_rule}
use Rattle.pd_kinds.specs.Stages.{order_bad}
use Rattle.pd_kinds.specs.declared.rule.Rule.TheVariants as r
use Rattle.pd_graph.specs.declared.notes.Note.{Note}
use Rattle.pd_graph.specs.Format.{IsSound}
use Rattle.pd_graph.specs.declared.audit.Audit.{Audit}
use Rattle.pd_graph.specs.Walk.{weigh}
use Rattle.pd_graph.specs.Audit.{roles_at, blocks_of, has_walked, count_at, has_rule_at, note_at}
use Rattle.pd_graph.specs.Marks.{has_bit}
use Rattle.pd_graph.specs.declared.notes.Notes.{Notes}
use Rattle.pd_graph.specs.Notes.{note_in}
use Rattle.pd_settle.specs.Notes.{IsNoted, least_of, greatest_of, keys_note}

-- the node and each that fewer than j inner edges lead to is well, and no chain of j inner edges starts at it
unfoldable pub is_good : (ℕ → Bool) → (ℕ → List ℕ) → ℕ → ℕ → Bool
is_good well down zero p = false
is_good well down (suc j) p = well p && list_all (is_good well down j) (down p)

-- a node is well where its block is fit and, if that is asked, its own children are in range
abbrev pub is_well : Graph → List (List ℕ) → (ℕ → Bool) → Bool → ℕ → Bool
is_well graph image fit strict p = fit (block_of p) && (not strict || (not (is_inner_pair graph image p) || is_in_range graph image p))

-- and so are all below it
unfoldable pub is_good_node : Graph → List (List ℕ) → (ℕ → Bool) → Bool → ℕ → Bool
is_good_node graph image fit strict p = is_good (is_well graph image fit strict) (children graph image) 64 p

-- the nodes that are settled: one of each block at the most, with each child of a node, and the fit ones break no rule
pub record AreSettleable (graph : Graph) (image : List (List ℕ)) (nodes fit : ℕ → Bool) : Type 0 where
  pub alone : (p q : ℕ) → nodes p ≡ true → nodes q ≡ true → block_of p ≡ block_of q → p ≡ q
  pub sound : (b role : ℕ) → b < graph.nr → role < 16 → nodes (pair b role) ≡ true → fit b ≡ true → IsSound graph role b (block_at image b)
  pub closed : (p q : ℕ) → nodes p ≡ true → list_any (λ t. t == q) (children graph image p) ≡ true → nodes q ≡ true

-- the note of a good node
pub record IsGoodNote (graph : Graph) (image : List (List ℕ)) (fit : ℕ → Bool) (strict : Bool) (p : ℕ) (note : Note) : Type 0 where
  pub good : is_good_node graph image fit strict p ≡ true
  pub noted : IsNoted (is_inner_pair graph image) (children graph image) (own_keys graph image) p note
  pub ranged : note.in_range ≡ (not (is_inner_pair graph image p) || is_in_range graph image p)

-- the pair is a node of a tree that is reached
abbrev pub is_node : Graph → List (List ℕ) → ℕ → Bool
is_node graph image p = is_reached graph image p && graph.is_tree (role_of p)

-- no block is reached in two roles, and none has a bad rule in a role in which it is reached
pub record IsClean (graph : Graph) (image : List (List ℕ)) : Type 0 where
  pub alone : (p q : ℕ) → block_of q < graph.nr → is_reached graph image p ≡ true → is_reached graph image q ≡ true → block_of p ≡ block_of q → p ≡ q
  pub sound : (b role : ℕ) → b < graph.nr → role < 16 → is_reached graph image (pair b role) ≡ true → IsSound graph role b (block_at image b)

-- something was noted of the block, and it was settled
abbrev pub is_known : (ℕ → Note) → ℕ → Bool
is_known notes c = not ((notes c).height == 0)

abbrev pub is_settled : (ℕ → Note) → ℕ → Bool
is_settled notes c = not ((notes c).height == 0) && not ((notes c).height == 66)

-- the steps that were made: each block is put on the stack, and settled
unfoldable pub steps : ℕ → (ℕ → Note) → ℕ
steps nr notes = weigh (is_known notes) (λ c. 1) nr + weigh (is_settled notes) (λ c. 1) nr

-- nothing is on the stack
pub record IsClosed (notes : ℕ → Note) : Type 0 where
  pub none : (c : ℕ) → (notes c).height ≡ 66 → ⊥

-- what was noted of a block isn't forgotten
pub record KeepsKnown (old new : ℕ → Note) : Type 0 where
  pub known : (c : ℕ) → 1 ≤ (old c).height → 1 ≤ (new c).height

-- the notes of the blocks that were settled are right
pub record IsOrdering (graph : Graph) (image : List (List ℕ)) (nodes fit : ℕ → Bool) (strict : Bool) (notes : ℕ → Note) : Type 0 where
  pub good : (p : ℕ) → nodes p ≡ true → 1 ≤ (notes (block_of p)).height → (notes (block_of p)).height ≤ 64
      → IsGoodNote graph image fit strict p (notes (block_of p))
  pub bad : (p : ℕ) → nodes p ≡ true → 65 ≤ (notes (block_of p)).height → (notes (block_of p)).height ≢ 66 → is_good_node graph image fit strict p ≡ false
  -- a block that isn't fit is bad without a look at it
  pub unfit : (c : ℕ) → c < graph.nr → fit c ≡ false → (notes c).height ≡ 65
  -- only nodes were looked at
  pub looked : (c : ℕ) → 1 ≤ (notes c).height → (role : ℕ) × (role < 16) × (nodes (pair c role) ≡ true)
  -- and of the others nothing is said of ranges
  pub unknown : (c : ℕ) → (notes c).height ≡ 0 → (notes c).in_range ≡ true

-- the audit has the roles in which blocks are reached
pub record HasRoles (graph : Graph) (image : List (List ℕ)) (audit : Audit) : Type 0 where
  pub roles : (b role : ℕ) → b < graph.nr → role < 16 → has_bit (roles_at audit b) role ≡ is_reached graph image (pair b role)

-- the reachable inner nodes, ascending
unfoldable pub inner_nodes : Graph → List (List ℕ) → List ℕ
inner_nodes graph image = filter (λ p. is_reached graph image p && is_inner_pair graph image p) (range_with_len 0 (16 * graph.nr))

-- each node is settled: those up to a height of 64 are the good ones
pub record AreSettled (graph : Graph) (image : List (List ℕ)) (nodes fit : ℕ → Bool) (strict : Bool) (notes : ℕ → Note) : Type 0 where
  pub known : (p : ℕ) → nodes p ≡ true → 1 ≤ (notes (block_of p)).height
  pub height : (p : ℕ) → nodes p ≡ true → nat_lt (notes (block_of p)).height 65 ≡ is_good_node graph image fit strict p
  pub good : (p : ℕ) → nodes p ≡ true → is_good_node graph image fit strict p ≡ true → IsGoodNote graph image fit strict p (notes (block_of p))
  -- a block that is no node has no rule
  pub others : (c : ℕ) → ((role : ℕ) → role < 16 → nodes (pair c role) ≡ false) → ((notes c).height ≡ 0) × ((notes c).in_range ≡ true)

-- the rule of a settled node
abbrev pub noted_rule : Note → Option Rule
noted_rule note = if nat_lt note.height 65 then (if note.in_range then None else Some r.Range) else Some r.Level

-- a rule that may be missing
abbrev pub breaks : Option Rule → Rule → Bool
breaks None wanted = false
breaks (Some rule) wanted = same_rule rule wanted

-- the number of blocks, and the roles and references that the walk met, stay
pub record KeepsMet (old new : Audit) : Type 0 where
  pub number : blocks_of new ≡ blocks_of old
  pub roles : (b : ℕ) → roles_at new b ≡ roles_at old b
  pub counts : (b : ℕ) → count_at new b ≡ count_at old b

-- and whether the walk has ended
pub record KeepsWalk (old new : Audit) : Type 0 where
  pub number : blocks_of new ≡ blocks_of old
  pub walked : has_walked new ≡ has_walked old
  pub roles : (b : ℕ) → roles_at new b ≡ roles_at old b
  pub counts : (b : ℕ) → count_at new b ≡ count_at old b

-- the audit has the marks of the stage Order, and the notes of every node of a tree
pub record IsSettled (graph : Graph) (image : List (List ℕ)) (audit : Audit) : Type 0 where
  -- the rules are those of the stage Order
  pub rules : (b : ℕ) (wanted : Rule) → b < graph.nr → has_rule_at audit b wanted ≡ order_bad graph image b wanted
  -- a deep node's height is 65, and no other is above 64
  pub deep : (p : ℕ) → is_node graph image p ≡ true → is_deep graph image p ≡ not (nat_lt (note_at audit (block_of p)).height 65)
  -- any other node's note is that of the keys below it
  pub notes : (p : ℕ) → is_node graph image p ≡ true → is_deep graph image p ≡ false
      → note_at audit (block_of p) ≡ keys_note (keys_below graph image p) (note_at audit (block_of p)).height (note_at audit (block_of p)).in_range
  -- its height is at most 64, and above that of each child
  pub low : (p : ℕ) → is_node graph image p ≡ true → is_deep graph image p ≡ false → (note_at audit (block_of p)).height ≤ 64
  pub above : (p q : ℕ) → is_node graph image p ≡ true → is_deep graph image p ≡ false → list_any (λ t. t == q) (children graph image p) ≡ true
      → (note_at audit (block_of q)).height < (note_at audit (block_of p)).height
  -- where no block has Level or Range, the number of keys below a node is exact
  pub exact : ((b : ℕ) (wanted : Rule) → b < graph.nr → order_bad graph image b wanted ≡ false) → (p : ℕ) → is_node graph image p ≡ true
      → (note_at audit (block_of p)).below ≡ length (keys_below graph image p)

-- the blocks that are fit break no rule of their own in the role
pub record AreFit (graph : Graph) (image : List (List ℕ)) (role : ℕ) (fit : ℕ → Bool) : Type 0 where
  pub sound : (b : ℕ) → b < graph.nr → fit b ≡ true → IsSound graph role b (block_at image b)

-- each block is settled as a node of the role, by which blocks are fit for it
pub record AreSettledIn (graph : Graph) (image : List (List ℕ)) (role : ℕ) (fit : ℕ → Bool) (notes : Notes) : Type 0 where
  -- a good node's height is from 1 to 64, and that of any other is above
  pub known : (b : ℕ) → b < graph.nr → 1 ≤ (note_in notes b).height
  pub height : (b : ℕ) → b < graph.nr → nat_lt (note_in notes b).height 65 ≡ is_good_node graph image fit true (pair b role)
  -- a good node's note tells of the keys below it
  pub least : (b : ℕ) → b < graph.nr → is_good_node graph image fit true (pair b role) ≡ true
      → (note_in notes b).least ≡ least_of (keys_below graph image (pair b role))
  pub greatest : (b : ℕ) → b < graph.nr → is_good_node graph image fit true (pair b role) ≡ true
      → (note_in notes b).greatest ≡ greatest_of (keys_below graph image (pair b role))
  pub below : (b : ℕ) → b < graph.nr → is_good_node graph image fit true (pair b role) ≡ true
      → (note_in notes b).below ≡ length (keys_below graph image (pair b role))
  -- those are no more than the keys of all blocks
  pub few : (b : ℕ) → b < graph.nr → is_good_node graph image fit true (pair b role) ≡ true → (note_in notes b).below ≤ 338 * graph.nr
  -- it is above each of its children
  pub above : (b p : ℕ) → b < graph.nr → is_good_node graph image fit true (pair b role) ≡ true
      → list_any (λ t. t == p) (children graph image (pair b role)) ≡ true → (note_in notes (block_of p)).height < (note_in notes b).height

-- the blocks that a table of sets of roles has in the role
abbrev pub is_fit : List ℕ → ℕ → ℕ → Bool
is_fit table role b = has_bit (slice_index table b) role
