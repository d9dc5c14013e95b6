-- The note of a node from the notes of its children.
use Rattle.std.specs.Prelude.{◌≡◌, ℕ, ◌+◌, ◌-◌, ◌^◌, ◌≤◌, min, max, Bool, true, false, ◌==◌, ◌&&◌, not, nat_lt, List, [], ◌∷◌, length, Option, Some, None}
use Rattle.std.specs.List.{list_any}
use Rattle.std.specs.Option.{is_some}
use Rattle.pd_kinds.specs.Graph.{has_chain, gathered}
use Rattle.pd_graph.specs.declared.notes.Note.{Note}

-- the lesser, and the greater, of two numbers that may be missing
abbrev pub lower : Option ℕ → Option ℕ → Option ℕ
lower None b = b
lower (Some a) None = Some a
lower (Some a) (Some b) = Some (min a b)

abbrev pub higher : Option ℕ → Option ℕ → Option ℕ
higher None b = b
higher (Some a) None = Some a
higher (Some a) (Some b) = Some (max a b)

-- the least, and the greatest, number of a list
abbrev pub least_of : List ℕ → Option ℕ
least_of [] = None
least_of (x ∷ xs) = lower (Some x) (least_of xs)

abbrev pub greatest_of : List ℕ → Option ℕ
greatest_of [] = None
greatest_of (x ∷ xs) = higher (Some x) (greatest_of xs)

-- one of the numbers, and none of them is below it, or above it
pub record IsLeast (xs : List ℕ) (least : ℕ) : Type 0 where
  pub among : list_any (λ x. x == least) xs ≡ true
  pub below : (x : ℕ) → list_any (λ y. y == x) xs ≡ true → least ≤ x

pub record IsGreatest (xs : List ℕ) (greatest : ℕ) : Type 0 where
  pub among : list_any (λ x. x == greatest) xs ≡ true
  pub above : (x : ℕ) → list_any (λ y. y == x) xs ≡ true → x ≤ greatest

-- a count that stays at the end of its type
abbrev pub capped : ℕ → ℕ
capped n = min n (2 ^ 64 - 1)

-- the note of a node over these keys
abbrev pub keys_note : List ℕ → ℕ → Bool → Note
keys_note keys height in_range = record {
  least = least_of keys;
  greatest = greatest_of keys;
  below = capped (length keys);
  height = height;
  in_range = in_range;
}

-- a note without keys
abbrev pub keyless_note : ℕ → ℕ → Note
keyless_note below height = record { least = None; greatest = None; below = below; height = height; in_range = true }

-- two notes of neighbours as one, which is no node's
abbrev pub join : Note → Note → Note
join a b = record {
  least = lower a.least b.least;
  greatest = higher a.greatest b.greatest;
  below = capped (a.below + b.below);
  height = max a.height b.height;
  in_range = true;
}

-- the note one step higher, and whether the children are in range
abbrev pub one_step_higher : Note → Bool → Note
one_step_higher note in_range = record note { height = note.height + 1; in_range = in_range }

-- the notes of children, one after another
abbrev pub joined : (ℕ → Note) → Note → List ℕ → Note
joined notes sum [] = sum
joined notes sum (c ∷ cs) = joined notes (join sum (notes c)) cs

-- no key is below the low end, and none at or above the high one
abbrev pub keeps_floor : ℕ → Option ℕ → Bool
keeps_floor low None = true
keeps_floor low (Some least) = not (nat_lt least low)

abbrev pub keeps_ceiling : Option ℕ → Option ℕ → Bool
keeps_ceiling None greatest = true
keeps_ceiling (Some high) None = true
keeps_ceiling (Some high) (Some greatest) = nat_lt greatest high

-- a child is in range, by its note
abbrev pub is_note_in_range : ℕ → Option ℕ → Note → Bool
is_note_in_range low high note = is_some note.least && (keeps_floor low note.least && keeps_ceiling high note.greatest)

-- each child is
abbrev pub are_notes_in_range : (ℕ → Note) → List ℕ → List ℕ → Bool
are_notes_in_range notes (low ∷ high ∷ lows) (c ∷ cs) = is_note_in_range low (Some high) (notes c) && are_notes_in_range notes (high ∷ lows) cs
are_notes_in_range notes (low ∷ []) (c ∷ cs) = is_note_in_range low None (notes c)
are_notes_in_range notes [] cs = true
are_notes_in_range notes (low ∷ lows) [] = true

-- the note of a node that isn't deep: its height is 1 more than its longest chain of inner edges
pub record IsNoted (inner : ℕ → Bool) (down : ℕ → List ℕ) (own : ℕ → List ℕ) (p : ℕ) (note : Note) : Type 0 where
  pub low : 1 ≤ note.height
  pub high : note.height ≤ 64
  pub long : has_chain down (note.height - 1) p ≡ true
  pub ends : has_chain down note.height p ≡ false
  pub keys : note ≡ keys_note (gathered inner down own 63 p) note.height note.in_range
