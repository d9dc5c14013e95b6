-- The arrays of one kind in an image, and the marks of the nodes of their trees.
-- How full the blocks of an array are, one after another.
-- A table of marks.
-- The memory in which a walk marks the blocks of arrays.
-- How many blocks are read to mark the nodes of an array's tree.
-- How many blocks are read at the most to mark the arrays of one kind.
use Rattle.std.specs.Prelude.{ℕ, Bool, true, ◌==◌, ◌&&◌, List, [], ◌∷◌, Option, Some, None, length, slice_index_or, ◌≡◌, ◌⊎◌, ◌<◌, map, ◌≤◌, nat_lt}
use Rattle.std.specs.List.{AllByRecursion, count_by, range_with_len}
use Rattle.std.proofs.Common.{subst, sym}
use Rattle.std.proofs.Math.Path.{fun_ext}
use Rattle.pd_kinds.specs.Array.{max_words, word_count}
use Rattle.pd_kinds.specs.Graph.{Graph, block_at, pair}
use Rattle.pd_kinds.specs.Layout.{Layout, array}
use Rattle.pd_kinds.specs.Node.{Entry}
use Rattle.pd_kinds.specs.Stages.{IsReached}
use Rattle.pd_kinds.specs.Trees.{entries_below}
use Rattle.pd_kinds.specs.Whole.{Array}
use Rattle.pd_kinds.specs.InOrder.{AreInOrder}
use Rattle.pd_kinds.specs.declared.limits.TheConstants.{MAX_META_BLOCKS}
use Rattle.pd_array.specs.Word.{size_of}
use Rattle.pd_graph.specs.Marks.{values_of, has_bit}
use Rattle.pd_graph.specs.declared.audit.Audit.{Audit}
use Rattle.pd_graph.specs.Audit.{note_at, roles_at, blocks_of}
use Rattle.pd_graph.specs.Format.{AreSame}
use Rattle.pd_tree.specs.Search.{IsTreeTo}
use Rattle.pd_check.specs.declared.array_marks.ArrayMark.{ArrayMark}
use Rattle.pd_check.specs.declared.array_marks.ArrayMarks.{ArrayMarks}
use Rattle.pd_check.specs.Known.{IsKnown}
use Rattle.pd_check.specs.declared.array_rules.ArrayRoles.{ArrayRoles}
use Rattle.pd_check.specs.Refs.{number_in}

-- whether each block but the last is full, by the numbers of words of the blocks
abbrev pub are_filled : ℕ → List ℕ → Bool
are_filled most [] = true
are_filled most (n ∷ []) = true
are_filled most (n ∷ m ∷ ns) = (n == most) && are_filled most (m ∷ ns)

-- the last of these numbers
abbrev pub last_of : List ℕ → Option ℕ
last_of [] = None
last_of (n ∷ []) = Some n
last_of (n ∷ m ∷ ns) = last_of (m ∷ ns)

-- the mark of blocks with so many words, and of no blocks
abbrev pub mark_of : ℕ → List ℕ → ArrayMark
mark_of most counts = record { full = are_filled most counts; last = last_of counts }

abbrev pub no_mark : ArrayMark
no_mark = record { full = true; last = None }

-- the last block before others is full: there may be none, or no others
abbrev pub fits : ℕ → Option ℕ → Option ℕ → Bool
fits most (Some n) (Some m) = n == most
fits most (Some n) None = true
fits most None behind = true

-- the last number of all
abbrev pub later : Option ℕ → Option ℕ → Option ℕ
later before None = before
later before (Some n) = Some n

-- the mark of blocks and of others behind them
abbrev pub join : ℕ → ArrayMark → ArrayMark → ArrayMark
join most a b = record { full = a.full && fits most a.last b.last && b.full; last = later a.last b.last }

-- the marks below children, one after another
abbrev pub joined : ℕ → (ℕ → ArrayMark) → ArrayMark → List ℕ → ArrayMark
joined most marks sum [] = sum
joined most marks sum (c ∷ cs) = joined most marks (join most sum (marks c)) cs

-- the number of blocks
abbrev pub places_of : ArrayMarks → ℕ
places_of marks = length (values_of marks.marks)

-- the mark of a block
abbrev pub mark_at : ArrayMarks → ℕ → ArrayMark
mark_at marks b = slice_index_or (values_of marks.marks) b no_mark

-- the array with this root, which must have one of these lengths
abbrev pub array_of : ArrayRoles → ℕ → List ℕ → Array
array_of roles root lengths = record { role = roles.nodes; root = root; size = size_of roles.word; lengths = lengths }

-- the lengths of which an array must have one, where a number is given
abbrev pub lengths_of : Option ℕ → List ℕ
lengths_of None = []
lengths_of (Some words) = words ∷ []

-- how many words a full block has
abbrev pub most_of : ArrayRoles → ℕ
most_of roles = max_words (size_of roles.word)

-- how many words the blocks have that these entries name
abbrev pub counts_of : ℕ → List (List ℕ) → List Entry → List ℕ
counts_of size image entries = map (λ (e : Entry). word_count size (block_at image e.value)) entries

-- how many words the blocks of an array have that stand below a node of its tree
unfoldable pub counts_below : Graph → List (List ℕ) → ArrayRoles → ℕ → List ℕ
counts_below graph image roles b = counts_of (size_of roles.word) image (entries_below graph image 8 roles.nodes b)

-- an image in order that an audit knows, with such arrays
pub record HasArrays (graph : Graph) (image : List (List ℕ)) (audit : Audit) (roles : ArrayRoles) : Type 0 where
  pub known : IsKnown graph image audit
  pub ordered : AreInOrder graph image
  pub tree : IsTreeTo graph roles.nodes 8 roles.blocks (λ v. v)
  pub apart : roles.nodes ≡ roles.blocks → ⊥

-- where these pairs were shown, the mark of each block that is among them as a block of the arrays alone is that of its words
pub record AreShown (roles : ArrayRoles) (image : List (List ℕ)) (pairs : ℕ → Bool) (marks : ArrayMarks) : Type 0 where
  pub blocks : (b : ℕ) → pairs (pair b roles.blocks) ≡ true → ((other : ℕ) → other < 16 → pairs (pair b other) ≡ true → other ≡ roles.blocks)
      → mark_at marks b ≡ mark_of (most_of roles) (word_count (size_of roles.word) (block_at image b) ∷ [])

-- the mark of each block of the arrays is that of its words
pub record AreCounted (graph : Graph) (image : List (List ℕ)) (roles : ArrayRoles) (marks : ArrayMarks) : Type 0 where
  pub blocks : (b : ℕ) → IsReached graph image b roles.blocks
      → mark_at marks b ≡ mark_of (most_of roles) (word_count (size_of roles.word) (block_at image b) ∷ [])

-- by this layout of the roles, arrays of this kind have blocks with such words
pub record HasWords (layout : ℕ → Layout) (kind : ArrayRoles) : Type 0 where
  pub few : kind.blocks < 16
  pub words : layout kind.blocks ≡ array (size_of kind.word)

-- so of each kind that a layout has, and of each of these kinds
abbrev pub AreAllShown : (ℕ → Layout) → List (List ℕ) → (ℕ → Bool) → ArrayMarks → Type 0
AreAllShown layout image pairs marks = (kind : ArrayRoles) → HasWords layout kind → AreShown kind image pairs marks

abbrev pub AreAllCounted : List ArrayRoles → Graph → List (List ℕ) → ArrayMarks → Type 0
AreAllCounted kinds graph image marks = AllByRecursion (λ (kind : ArrayRoles). AreCounted graph image kind marks) kinds

-- what is known so of the blocks of other arrays stays while nodes of these are marked
abbrev pub KeepsBlocks : Audit → ArrayRoles → ArrayMarks → ArrayMarks → Type 0
KeepsBlocks audit roles old new =
    (graph : Graph) (image : List (List ℕ)) (others : ArrayRoles) → IsKnown graph image audit → (roles.nodes ≡ others.blocks → ⊥)
    → AreCounted graph image others old → AreCounted graph image others new

-- the mark of each node of their trees is that of the blocks that stand below it
pub record AreMarked (graph : Graph) (image : List (List ℕ)) (roles : ArrayRoles) (marks : ArrayMarks) : Type 0 where
  pub nodes : (b : ℕ) → IsReached graph image b roles.nodes → mark_at marks b ≡ mark_of (most_of roles) (counts_below graph image roles b)

-- so far the blocks, and the nodes below a height and those of that height before a block
pub record AreMarkedTo (graph : Graph) (image : List (List ℕ)) (audit : Audit) (roles : ArrayRoles) (height before : ℕ) (marks : ArrayMarks) : Type 0 where
  pub counted : AreCounted graph image roles marks
  pub nodes : (b : ℕ) → IsReached graph image b roles.nodes
      → ((note_at audit b).height < height) ⊎ (((note_at audit b).height ≡ height) × (b < before))
      → mark_at marks b ≡ mark_of (most_of roles) (counts_below graph image roles b)

-- marks for a format of so many roles, one for each metadata block where there may be so many
pub record HasMarks (number : ℕ) (graph : Graph) (marks : ArrayMarks) : Type 0 where
  pub roles : graph.roles ≡ number
  pub places : graph.nr ≤ MAX_META_BLOCKS → places_of marks ≡ graph.nr

-- the same pairs were shown
pub shown_same : (layout : ℕ → Layout) (image : List (List ℕ)) (pairs others : ℕ → Bool) (marks : ArrayMarks) → AreSame pairs others
    → AreAllShown layout image pairs marks → AreAllShown layout image others marks
shown_same layout image pairs others marks same = subst (λ (ps : ℕ → Bool). AreAllShown layout image ps marks) (fun_ext (λ p. sym (same p)))

-- how many numbers below n pass the test
unfoldable pub number_where : (ℕ → Bool) → ℕ → ℕ
number_where f n = count_by f (range_with_len 0 n)

-- the block was met in the role, with a note of this height, or of a lower one
abbrev pub is_at : Audit → ℕ → ℕ → ℕ → Bool
is_at audit role height b = has_bit (roles_at audit b) role && ((note_at audit b).height == height)

abbrev pub is_under : Audit → ℕ → ℕ → ℕ → Bool
is_under audit role height b = has_bit (roles_at audit b) role && nat_lt (note_at audit b).height height

-- the nodes of their trees
abbrev pub kind_reads : Audit → ArrayRoles → ℕ
kind_reads audit roles = number_in audit roles.nodes (blocks_of audit)
