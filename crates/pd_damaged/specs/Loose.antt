-- Blocks that look like nodes of a mapping tree or of a details tree that isn't sound, and which of them stand below others.
-- The roots that are listed of them.
use Rattle.std.specs.Prelude.{◌≡◌, ℕ, ◌<◌, ◌==◌, ◌&&◌, ◌||◌, Bool, false, not, nat_lt, List, length, filter, slice_index_or}
use Rattle.std.specs.List.{list_any, range_with_len}
use Rattle.pd_kinds.specs.Graph.{Graph, block_at, is_outside}
use Rattle.pd_kinds.specs.Node.{is_inner_node}
use Rattle.pd_laid.specs.Salvage.{is_damaged}
use Rattle.pd_graph.specs.declared.notes.Notes.{Notes}
use Rattle.pd_graph.specs.Notes.{note_in, size_of}
use Rattle.pd_graph.specs.Marks.{values_of}
use Rattle.pd_scan.specs.Lost.{AreRoots}
use Rattle.pd_answers.specs.DamagedStates.{are_ids, has_child, is_details_root, is_loose_top_node, is_mostly_inside, is_topmost}
use Rattle.pd_damaged.specs.declared.loose.Kind.{Kind}
use Rattle.pd_damaged.specs.declared.loose.Kind.TheVariants as k
use Rattle.pd_damaged.specs.declared.marks.LooseNodes.{LooseNodes}
use Rattle.pd_damaged.specs.declared.settled.Sound.{Sound}

-- the size of the values in the leaves of such a tree
abbrev pub size_of_kind : Kind → ℕ
size_of_kind k.Top = 8
size_of_kind k.Details = 24

-- a block looks like a node of such a tree, and isn't the root of a sound one
abbrev pub looks_loose : Kind → ℕ → Bool → ℕ → List ℕ → Bool
looks_loose k.Top nr sound b block =
    not (is_outside nr b || is_damaged 8 b block) && (is_mostly_inside 8 nr block && (are_ids 8 block && not sound))
looks_loose k.Details nr sound b block =
    not (is_outside nr b || is_damaged 24 b block)
    && ((not (is_inner_node block) || is_mostly_inside 24 nr block) && (are_ids 24 block && not sound))

-- a note says that the block is the root of a sound tree
abbrev pub is_noted : Notes → ℕ → Bool
is_noted notes b = nat_lt (note_in notes b).height 65

-- a block is such a node, by notes of the sound trees
unfoldable pub is_loose_by : Kind → Notes → List (List ℕ) → ℕ → Bool
is_loose_by kind notes image b = looks_loose kind (size_of notes) (is_noted notes b) b (block_at image b)

-- one of the first blocks but this one is such a node, and has it among its children
unfoldable pub is_below_first : Kind → Notes → List (List ℕ) → ℕ → ℕ → Bool
is_below_first kind notes image n c =
    list_any (λ other. not (other == c) && (is_loose_by kind notes image other && has_child (size_of_kind kind) (block_at image other) c))
    (range_with_len 0 n)

-- what the tables have of a block
abbrev pub is_loose_in : LooseNodes → ℕ → Bool
is_loose_in nodes b = slice_index_or (values_of nodes.loose) b false

abbrev pub is_below_in : LooseNodes → ℕ → Bool
is_below_in nodes b = slice_index_or (values_of nodes.below) b false

-- the tables have places for so many blocks
pub record HaveNodes (nr : ℕ) (nodes : LooseNodes) : Type 0 where
  pub loose : length (values_of nodes.loose) ≡ nr
  pub below : length (values_of nodes.below) ≡ nr

-- the tables have the first blocks, and their children
pub record AreMarked (kind : Kind) (notes : Notes) (image : List (List ℕ)) (n : ℕ) (nodes : LooseNodes) : Type 0 where
  pub loose : (c : ℕ) → c < size_of notes → is_loose_in nodes c ≡ (nat_lt c n && is_loose_by kind notes image c)
  pub below : (c : ℕ) → c < size_of notes → is_below_in nodes c ≡ is_below_first kind notes image n c

-- the tables have one block more, where it is loose, and its children
pub record MarksMore (kind : Kind) (loose : Bool) (b : ℕ) (block : List ℕ) (nr : ℕ) (old new : LooseNodes) : Type 0 where
  pub itself : (c : ℕ) → c < nr → is_loose_in new c ≡ (is_loose_in old c || ((c == b) && loose))
  pub children : (c : ℕ) → c < nr
      → is_below_in new c ≡ (is_below_in old c || (not (b == c) && (loose && has_child (size_of_kind kind) block c)))

-- a block is the root of such a tree, by the tables
abbrev pub is_root_in : LooseNodes → ℕ → Bool
is_root_in nodes b = is_loose_in nodes b && not (is_below_in nodes b)

-- the same, or the root of a sound one where those are listed too
abbrev pub is_listed : LooseNodes → Notes → Bool → ℕ → Bool
is_listed nodes notes sound_too b = (sound_too && is_noted notes b) || is_root_in nodes b

-- a node that looks like the root of a mapping tree, whatever is kept below it
abbrev pub is_topmost_top : Graph → List (List ℕ) → ℕ → Bool
is_topmost_top graph image t = is_loose_top_node graph image t && is_topmost 8 (is_loose_top_node graph image) graph.nr image t

-- the blocks listed are the topmost loose tops, and the roots of details trees
pub record AreTopmost (graph : Graph) (image : List (List ℕ)) (found : List ℕ) : Type 0 where
  pub all : found ≡ filter (is_topmost_top graph image) (range_with_len 0 graph.nr)

pub record AreDetailsRoots (graph : Graph) (image : List (List ℕ)) (found : List ℕ) : Type 0 where
  pub all : found ≡ filter (is_details_root graph image) (range_with_len 0 graph.nr)

-- the notes are those of the sound trees
pub record AreSound (graph : Graph) (image : List (List ℕ)) (sound : Sound) : Type 0 where
  pub tops : AreRoots graph image 2 sound.tops
  pub details : AreRoots graph image 4 sound.details
