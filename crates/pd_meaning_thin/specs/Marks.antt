-- What a mark tells of a metadata block as a node of the trees of some roots.
-- The shared leaves that the marks tell, and how many of them stand before a block.
use Rattle.std.specs.Prelude.{◌≡◌, ℕ, zero, suc, ◌<◌, Bool, true, false, ◌&&◌, nat_eq, nat_le, List, length, count_by, sum_by, ◌+◌, ◌*◌, ◌/◌, filter, take}
use Rattle.std.specs.List.{flat_map, slice_index_or, range_with_len}
use Rattle.pd_kinds.specs.Graph.{block_at}
use Rattle.pd_kinds.specs.Node.{entry_count, is_inner_node}
use Rattle.pd_tree.specs.Below.{nodes_below}
use Rattle.pd_meaning_thin.specs.declared.marks.Mark.{Mark}
use Rattle.pd_meaning_thin.specs.declared.marks.Mark.TheVariants.{Unseen, Inner, SharedInner, Leaf, SharedLeaf, OtherLeaf}

-- a node has 1 to 252 entries
abbrev pub has_few_entries : List ℕ → Bool
has_few_entries block = nat_le 1 (entry_count 8 block) && nat_le (entry_count 8 block) 252

-- the mark of a node that the trees have once, and of one that they have more often: whether it is an inner node, and
-- whether it has few entries
abbrev pub mark_once : Bool → Bool → Mark
mark_once true few = Inner
mark_once false true = Leaf
mark_once false false = OtherLeaf

abbrev pub mark_often : Bool → Bool → Mark
mark_often true few = SharedInner
mark_often false true = SharedLeaf
mark_often false false = OtherLeaf

-- the mark of a node that the trees have so many times
unfoldable pub mark_of : List ℕ → ℕ → Mark
mark_of block zero = Unseen
mark_of block (suc zero) = mark_once (is_inner_node block) (has_few_entries block)
mark_of block (suc (suc n)) = mark_often (is_inner_node block) (has_few_entries block)

-- the mark of a node with this mark that is met once more
abbrev pub mark_after : Mark → List ℕ → Mark
mark_after Unseen block = mark_of block 1
mark_after Inner block = SharedInner
mark_after SharedInner block = SharedInner
mark_after Leaf block = SharedLeaf
mark_after SharedLeaf block = SharedLeaf
mark_after OtherLeaf block = OtherLeaf

-- whether the node is read when it is met once more, and whether it is a shared leaf
abbrev pub is_followed : Mark → Bool
is_followed Unseen = true
is_followed Inner = true
is_followed SharedInner = false
is_followed Leaf = false
is_followed SharedLeaf = false
is_followed OtherLeaf = false

abbrev pub is_shared : Mark → Bool
is_shared Unseen = false
is_shared Inner = false
is_shared SharedInner = false
is_shared Leaf = false
is_shared SharedLeaf = true
is_shared OtherLeaf = false

-- how many more times it can be read
abbrev pub reads_of : Mark → ℕ
reads_of Unseen = 2
reads_of Inner = 1
reads_of SharedInner = 0
reads_of Leaf = 0
reads_of SharedLeaf = 0
reads_of OtherLeaf = 0

abbrev pub reads_left : List Mark → ℕ
reads_left marks = sum_by reads_of marks

-- the mark of a block
abbrev pub mark_at : List Mark → ℕ → Mark
mark_at marks b = slice_index_or marks b Unseen

-- how often a block is in a list
unfoldable pub occurs : ℕ → List ℕ → ℕ
occurs b blocks = count_by (λ c. nat_eq c b) blocks

-- the nodes of the trees with these roots, one tree after another
unfoldable pub nodes_of : List (List ℕ) → List ℕ → List ℕ
nodes_of image roots = flat_map (nodes_below 8 image 63) roots

-- each block's mark is that of a node that these trees have so many times
unfoldable pub AreMarked : List (List ℕ) → List ℕ → List Mark → Type 0
AreMarked image roots marks = (b : ℕ) → b < length marks → mark_at marks b ≡ mark_of (block_at image b) (occurs b (nodes_of image roots))

-- the blocks that have the mark of a shared leaf, ascending
unfoldable pub marked_blocks : List Mark → List ℕ
marked_blocks marks = filter (λ b. is_shared (mark_at marks b)) (range_with_len 0 (length marks))

-- how many of them stand before a block
abbrev pub shared_before : List Mark → ℕ → ℕ
shared_before marks b = count_by is_shared (take b marks)

-- ranks tell how many stand before each group of 64 blocks, and before the rest behind the last whole one
pub record AreRanks (ranks : List ℕ) (marks : List Mark) : Type 0 where
  pub number : length ranks ≡ length marks / 64 + 1
  pub each : (group : ℕ) → group < length ranks → slice_index_or ranks group 0 ≡ shared_before marks (64 * group)
