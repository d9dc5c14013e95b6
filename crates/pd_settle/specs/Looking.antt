-- What a look at an inner node finds.
-- One step of settling: a block is put on the stack, or the one on top is settled and leaves it.
-- The inner node that is kept between two reads.
use Rattle.std.specs.Prelude.{◌≡◌, ℕ, ◌==◌, ◌&&◌, ◌<◌, Bool, true, false, not, nat_lt, List, map, ◌+◌, if◌then◌else◌, ◌≤◌, ◌-◌, Some}
use Rattle.std.specs.List.{list_any, list_all, slice_get}
use Rattle.pd_kinds.specs.Graph.{Edge}
use Rattle.pd_graph.specs.declared.notes.Note.{Note}
use Rattle.pd_graph.specs.Notes.{no_note, size_of, note_in, ends_note}
use Rattle.pd_graph.specs.declared.notes.Notes.{Notes}
use Rattle.pd_settle.specs.declared.looking.Seen.{Seen}
use Rattle.pd_settle.specs.declared.looking.Seen.TheVariants.{Down, Outside, Deep, Stray, Shallow}
use Rattle.pd_settle.specs.Notes.{joined, one_step_higher, are_notes_in_range, keyless_note}
use Rattle.pd_settle.specs.declared.descending.Kept.{Kept}

-- the blocks that edges lead to
abbrev pub blocks_of_edges : List Edge → List ℕ
blocks_of_edges edges = map (λ (edge : Edge). edge.block) edges

-- a settled note that isn't of the greatest height, and one that makes the node above too high, or bad
abbrev pub is_low : Note → Bool
is_low note = not (note.height == 0) && nat_lt note.height 64

abbrev pub is_high : Note → Bool
is_high note = not (nat_lt note.height 64)

-- all children are settled and low: their notes as one, and whether each is in range
pub record IsShallow (notes : ℕ → Note) (lows cs : List ℕ) (note : Note) : Type 0 where
  pub low : list_all (λ c. is_low (notes c)) cs ≡ true
  pub joins : note ≡ one_step_higher (joined notes no_note cs) note.in_range
  pub ranges : note.in_range ≡ are_notes_in_range notes lows cs

-- a child is still unknown
pub record IsUnknown (nr : ℕ) (notes : ℕ → Note) (cs : List ℕ) (c : ℕ) : Type 0 where
  pub child : list_any (λ d. d == c) cs ≡ true
  pub within : c < nr
  pub height : (notes c).height ≡ 0

-- some child isn't a block that there is
pub record IsOutside (nr : ℕ) (cs : List ℕ) : Type 0 where
  pub outside : list_any (λ c. not (nat_lt c nr)) cs ≡ true

-- some child is of the greatest height, bad, or on the stack
pub record IsOverHigh (notes : ℕ → Note) (cs : List ℕ) : Type 0 where
  pub high : list_any (λ c. is_high (notes c)) cs ≡ true

-- all children are settled and low, and one is out of its range
pub record IsStray (notes : ℕ → Note) (lows cs : List ℕ) : Type 0 where
  pub low : list_all (λ c. is_low (notes c)) cs ≡ true
  pub ranges : are_notes_in_range notes lows cs ≡ false

-- the note is asked for where the children are in range, or need not be
pub record IsAllowed (strict : Bool) (note : Note) : Type 0 where
  pub allowed : (strict && not note.in_range) ≡ false

-- what was found among so many blocks, by the keys of the node and its children
abbrev pub IsFound : ℕ → Bool → (ℕ → Note) → List ℕ → List ℕ → Seen → Type 0
IsFound nr strict notes lows cs (Down c) = IsUnknown nr notes cs c
IsFound nr strict notes lows cs Outside = IsOutside nr cs
IsFound nr strict notes lows cs Deep = IsOverHigh notes cs
IsFound nr strict notes lows cs Stray = (strict ≡ true) × IsStray notes lows cs
IsFound nr strict notes lows cs (Shallow note) = IsShallow notes lows cs note × IsAllowed strict note

-- the note of a block on the stack: the block below it, as its number and 1 more, or 0
abbrev pub open_note : ℕ → Note
open_note link = keyless_note link 66

-- the note of a node that is deep, or isn't good
abbrev pub bad_note : Note
bad_note = keyless_note 0 65

-- what a node turns out to be among so many blocks, by its keys and the notes of its children
pub data IsVerdict (nr : ℕ) (strict inner : Bool) (notes : ℕ → Note) (lows cs : List ℕ) (note : Note) : Type 0 where
  outside : inner ≡ true → IsOutside nr cs → note ≡ keyless_note 0 1 → IsVerdict nr strict inner notes lows cs note
  leaf : inner ≡ false → note ≡ ends_note lows → IsVerdict nr strict inner notes lows cs note
  deep : inner ≡ true → IsOverHigh notes cs → note ≡ bad_note → IsVerdict nr strict inner notes lows cs note
  stray : inner ≡ true → strict ≡ true → IsStray notes lows cs → note ≡ bad_note → IsVerdict nr strict inner notes lows cs note
  shallow : inner ≡ true → IsShallow notes lows cs note → IsAllowed strict note → IsVerdict nr strict inner notes lows cs note

-- the note of a block is replaced, and all else stays
pub record Closes (b : ℕ) (note : Note) (old new : Notes) : Type 0 where
  pub notes : (c : ℕ) → note_in new c ≡ (if c == b then note else note_in old c)
  pub number : size_of new ≡ size_of old

-- the top is settled, and the stack goes on below it
pub record Settles (nr : ℕ) (strict inner : Bool) (lows cs : List ℕ) (b : ℕ) (old new : Notes) (top : ℕ) : Type 0 where
  pub note : Note
  pub verdict : IsVerdict nr strict inner (note_in old) lows cs note
  pub closes : Closes b note old new
  pub below : top ≡ (note_in old b).below

-- a child that was unknown is put on top
pub record Opens (nr : ℕ) (inner : Bool) (cs : List ℕ) (b : ℕ) (old new : Notes) (top : ℕ) : Type 0 where
  pub child : ℕ
  pub inner_node : inner ≡ true
  pub leads : list_any (λ d. d == child) cs ≡ true
  pub within : child < nr
  pub unknown : (note_in old child).height ≡ 0
  pub closes : Closes child (open_note (b + 1)) old new
  pub above : top ≡ child + 1

-- what is kept is that block of the image
pub record IsKept (image : List (List ℕ)) (kept : Kept) : Type 0 where
  pub holds : 1 ≤ kept.at → slice_get image (kept.at - 1) ≡ Some kept.block.0
