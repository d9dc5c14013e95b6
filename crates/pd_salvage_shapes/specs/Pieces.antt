-- The pieces of what was met of a device, where some leaves are shared.
-- The leaves that devices share.
use Rattle.std.specs.Prelude.{◌≡◌, ℕ, suc, ◌+◌, ◌^◌, ◌≤◌, ◌==◌, List, [], ◌∷◌, ◌++◌, length, map, slice_index, Option, Some, None, ◌-◌, ◌<◌, true, Bool, filter, sum_by}
use Rattle.std.specs.List.{AllByRecursion, position, range_with_len, slice_get}
use Rattle.pd_kinds.specs.Meaning.{Mapping}
use Rattle.pd_grammar.specs.ThinText.{joined_runs}
use Rattle.pd_laid.specs.Shape.{Piece, with_leaf, with_own}
use Rattle.pd_laid.specs.PoolText.{piece_of_part}
use Rattle.pd_meaning_thin.specs.declared.joined.Run.{Run}
use Rattle.pd_meaning_thin.specs.Runs.{spelled}
use Rattle.pd_salvage.specs.declared.saved_shape.SavedPiece.{SavedPiece}
use Rattle.pd_salvage.specs.declared.saved_shape.SavedPiece.TheVariants.{Own}
use Rattle.pd_salvage.specs.Gather.{IsJoining, mappings_of_runs}
use Rattle.pd_salvage.specs.SavedShape.{IsPieceJoined, piece_parts, runs_of_pieces, AreCounted, leaf_parts}
use Rattle.pd_salvage.specs.declared.saved_shape.SavedLeaf.{SavedLeaf}
use Rattle.pd_salvage_shapes.specs.declared.note.LeafNote.{LeafNote}
use Rattle.pd_salvage_shapes.specs.declared.pieces.Piecing.{Piecing}
use Rattle.pd_salvage_shapes.specs.Note.{Met, met_of, noted}
use Rattle.pd_salvage_shapes.specs.declared.shape.SharedLeaves.{SharedLeaves}

-- the number of a leaf among the shared ones
abbrev pub number_of_leaf : List ℕ → Option ℕ → Option ℕ
number_of_leaf ones None = None
number_of_leaf ones (Some b) = position (λ leaf. leaf == b) ones

-- the pieces: what is met of a shared leaf by its number, and the mappings of the others between two of these as one piece
abbrev pub pieces_of_mets : List ℕ → List Met → List Piece
pieces_of_mets ones [] = []
pieces_of_mets ones (m ∷ ms) = with_leaf m.mappings (number_of_leaf ones m.leaf) (pieces_of_mets ones ms)

-- one above a number, or 0
abbrev pub above : Option ℕ → ℕ
above None = 0
above (Some number) = suc number

-- these are by block one above the numbers of the shared leaves, and 0 for any other
abbrev pub AreNumbers : List ℕ → List ℕ → Type 0
AreNumbers ones numbers = (b : ℕ) → slice_index numbers b ≡ above (number_of_leaf ones (Some b))

-- runs of a pool
abbrev pub AreRuns : List Run → Type 0
AreRuns runs = AllByRecursion (λ (r : Run). (1 ≤ r.length) × (r.target + r.length ≤ 2 ^ 40)) runs

-- some runs as a piece: none is none
abbrev pub own_piece : List Run → List SavedPiece
own_piece [] = []
own_piece (r ∷ rs) = Own (length (r ∷ rs)) ∷ []

-- the begun piece was ended
pub record EndsOwn (old new : Piecing) (before : List Run) (ms : List Mapping) : Type 0 where
  pub given : List Run
  pub runs_are : new.runs ≡ before ++ given
  pub written : ms ≡ mappings_of_runs given
  pub joined : joined_runs ms ≡ map spelled given
  pub pieces_are : new.pieces.items ≡ old.pieces.items ++ own_piece given
  pub none : new.joining.begun ≡ None
  pub first : new.first ≡ length new.runs

-- behind pieces and runs that were there before stand those of what was met, the last own piece still open
pub record IsPiecing (ones : List ℕ) (pieces : List SavedPiece) (runs : List Run) (p : Piecing) (done : List Met) : Type 0 where
  pub given : List SavedPiece
  pub given_runs : List Run
  pub mappings : List Mapping
  pub pieces_are : p.pieces.items ≡ pieces ++ given
  pub joining : IsJoining (runs ++ given_runs) p.runs p.joining mappings
  pub first : p.first ≡ length (runs ++ given_runs)
  pub number : runs_of_pieces given ≡ length given_runs
  pub joined : AllByRecursion IsPieceJoined (piece_parts given given_runs)
  pub means : (rest : List Met) → pieces_of_mets ones (done ++ rest) ≡ map piece_of_part (piece_parts given given_runs) ++ with_own mappings (pieces_of_mets ones rest)

-- and those of all that was met
pub record HasPieces (ones : List ℕ) (pieces : List SavedPiece) (runs : List Run) (p : Piecing) (mets : List Met) : Type 0 where
  pub given : List SavedPiece
  pub given_runs : List Run
  pub pieces_are : p.pieces.items ≡ pieces ++ given
  pub runs_are : p.runs ≡ runs ++ given_runs
  pub number : runs_of_pieces given ≡ length given_runs
  pub joined : AllByRecursion IsPieceJoined (piece_parts given given_runs)
  pub means : map piece_of_part (piece_parts given given_runs) ≡ pieces_of_mets ones mets

-- nothing is begun
pub record IsIdle (p : Piecing) : Type 0 where
  pub none : p.joining.begun ≡ None
  pub first : p.first ≡ length p.runs

-- a note was taken, as a leaf or as one of a device's own
abbrev pub TakesMet : LeafNote → ℕ → Piecing → Piecing → Type 0
TakesMet note number old new =
    (ones : List ℕ) (pieces : List SavedPiece) (runs : List Run) (done : List Met) (leaf : Option ℕ) → number ≡ above (number_of_leaf ones leaf) → (1 ≤ number → 1 ≤ length (noted note))
    → IsPiecing ones pieces runs old done → IsPiecing ones pieces runs new (done ++ met_of leaf (noted note))

-- a leaf is shared where it is used twice or more
abbrev pub is_twice : List ℕ → ℕ → Bool
is_twice uses b = slice_index uses b == 2

-- the shared leaves among the first blocks, and all of them
abbrev pub shared_below : List ℕ → ℕ → List ℕ
shared_below uses n = filter (is_twice uses) (range_with_len 0 n)

-- the note that is named at a block
abbrev pub note_at : List ℕ → List LeafNote → ℕ → Option LeafNote
note_at places notes b = slice_get notes (slice_index places b - 1)

-- its runs and its mappings
abbrev pub runs_of_note : Option LeafNote → List Run
runs_of_note None = []
runs_of_note (Some note) = note.runs

abbrev pub leaf_runs : List ℕ → List LeafNote → ℕ → List Run
leaf_runs places notes b = runs_of_note (note_at places notes b)

abbrev pub leaf_maps : List ℕ → List LeafNote → ℕ → List Mapping
leaf_maps places notes b = mappings_of_runs (leaf_runs places notes b)

-- at the blocks that are used twice the notes of whole leaves are named
abbrev pub AreNamed : List ℕ → List ℕ → List LeafNote → Type 0
AreNamed uses places notes = (b : ℕ) → b < length uses → is_twice uses b ≡ true → (1 ≤ slice_index places b) × (slice_index places b ≤ length notes)

-- each note has as many mappings as it says
abbrev pub AreCountedNotes : List LeafNote → Type 0
AreCountedNotes notes = (k : ℕ) (note : LeafNote) → slice_get notes k ≡ Some note → note.entries ≡ length (noted note)

-- a leaf was added
pub record AddsLeaf (note : LeafNote) (old new : SharedLeaves) : Type 0 where
  pub numbers : new.numbers.items ≡ old.numbers.items ++ length new.leaves.items ∷ []
  pub leaves : new.leaves.items ≡ old.leaves.items ++ record { entries = note.entries; runs = length note.runs } ∷ []
  pub runs : new.runs ≡ old.runs ++ note.runs

-- the shared leaves below a number of blocks
pub record IsSharing (uses places : List ℕ) (notes : List LeafNote) (s : SharedLeaves) (n : ℕ) : Type 0 where
  pub count : length s.numbers.items ≡ n
  pub numbers : (b : ℕ) → b < n → slice_index s.numbers.items b ≡ above (number_of_leaf (shared_below uses n) (Some b))
  pub leaves : leaf_parts s.leaves.items s.runs ≡ map (λ b. map spelled (leaf_runs places notes b)) (shared_below uses n)
  pub leaf_count : length s.leaves.items ≡ length (shared_below uses n)
  pub counted : AreCounted s.leaves.items s.runs
  pub number : sum_by (λ (leaf : SavedLeaf). leaf.runs) s.leaves.items ≡ length s.runs
