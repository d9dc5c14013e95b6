-- The walk over the trees of a pool's devices.
-- The leaves of a tree of mappings, over the bytes of an image alone, and which leaves are shared.
use Rattle.std.specs.Prelude.{ℕ, ◌<◌, if◌then◌else◌, List, [], ◌∷◌, map, nat_eq, ◌≡◌, ◌+◌, ◌*◌, Bool, true, false, ◌++◌, length}
use Rattle.std.specs.List.{AllByRecursion, IsDistinct, slice_set}
use Rattle.pd_kinds.specs.Graph.{block_at}
use Rattle.pd_kinds.specs.Node.{is_inner_node}
use Rattle.pd_value.specs.declared.thin.Root.{Root}
use Rattle.pd_tree.specs.Below.{gather, items_below, kids_from, nodes_below}
use Rattle.pd_tree.specs.Cursor.{root_of}
use Rattle.pd_tree.specs.Search.{HasAtMostLevels}
use Rattle.pd_meaning_thin.specs.declared.find.SharedLeaves.{SharedLeaves}
use Rattle.pd_meaning_thin.specs.Marks.{marked_blocks, AreMarked, is_followed, mark_after, mark_at, reads_left}
use Rattle.pd_meaning_thin.specs.declared.marks.Mark.{Mark}

-- the leaves that at most j inner edges lead to from a block, from left to right
unfoldable pub leaves_below : List (List ℕ) → ℕ → ℕ → List ℕ
leaves_below image j b =
    gather (λ c. if is_inner_node (block_at image c) then [] else c ∷ []) (λ c. kids_from 8 (block_at image c) 0) j b

-- the roots that the entries of a mapping tree name
abbrev pub roots_of : List (ℕ × Root) → List ℕ
roots_of items = map (λ (item : ℕ × Root). item.1.0) items

-- the roots of the devices' mappings, below the root of a mapping tree
abbrev pub roots_below : List (List ℕ) → ℕ → List ℕ
roots_below image root = roots_of (items_below 8 root_of image 63 root)

-- a tree of mappings whose nodes are among so many blocks, each of them met once, on 64 levels at most
pub record IsProperTree (image : List (List ℕ)) (blocks root : ℕ) : Type 0 where
  pub levels : HasAtMostLevels 8 image 64 root
  pub once : IsDistinct nat_eq (nodes_below 8 image 63 root)
  pub within : AllByRecursion (λ b. b < blocks) (nodes_below 8 image 63 root)

-- the blocks of the shared leaves, ascending
abbrev pub shared_blocks : SharedLeaves → List ℕ
shared_blocks shared = marked_blocks shared.marks.items

-- the blocks that wait after a node was met: its children too, if it is followed
abbrev pub waiting_after : Bool → List ℕ → List ℕ → List ℕ
waiting_after true block waiting = waiting ++ kids_from 8 block 0
waiting_after false block waiting = waiting

-- a block was met, once more or for the first time
pub record IsMet (image : List (List ℕ)) (b : ℕ) (old new : List Mark) (was waits : List ℕ) : Type 0 where
  pub marks : new ≡ slice_set old b (mark_after (mark_at old b) (block_at image b))
  pub waiting : waits ≡ waiting_after (is_followed (mark_at old b)) (block_at image b) was

-- a number that falls with each block that is taken
abbrev pub walk_number : List Mark → List ℕ → ℕ
walk_number marks waiting = 512 * reads_left marks + length waiting

-- trees are proper over the blocks that have a mark
abbrev pub AreProper : List (List ℕ) → List Mark → List ℕ → Type 0
AreProper image marks roots = AllByRecursion (IsProperTree image (length marks)) roots

-- the marks tell of these roots' trees too, if they told of others before
abbrev pub AreWalked : List (List ℕ) → List ℕ → List Mark → List Mark → Type 0
AreWalked image roots old new =
    (before : List ℕ) → AreProper image old before → AreProper image old roots → AreMarked image before old → AreMarked image (before ++ roots) new
