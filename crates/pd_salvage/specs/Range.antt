-- The keys that are wanted of a node, and what is given below it.
-- Entries whose keys ascend.
use Rattle.std.specs.Prelude.{ℕ, ◌^◌, Bool, not, nat_lt, ◌&&◌, List, map, ◌≡◌, ◌+◌, if◌then◌else◌, [], ◌∷◌, Option, Some, None}
use Rattle.std.specs.List.{flat_map}
use Rattle.pd_kinds.specs.Graph.{is_outside}
use Rattle.pd_laid.specs.Salvage.{child_low, child_high, Visit, entries_of_visit, visits}
use Rattle.pd_tree.specs.Cursor.{item_of}
use Rattle.pd_salvage.specs.declared.way.Range.{Range}

-- all keys
abbrev pub all_keys : Range
all_keys = record { low = 0; high = 2 ^ 64 }

-- the part that is child i's own
abbrev pub child_range : ℕ → List ℕ → Range → ℕ → Range
child_range size block range i = record { low = child_low block range.low i; high = child_high size block range.high i }

-- what is given below a block by paths of at most so many nodes: what each visit of a leaf gives
abbrev pub given_below : {X : Type 0} → (Visit → List X) → ℕ → ℕ → List (List ℕ) → ℕ → Range → ℕ → List X
given_below {X} given size nr image j range b = flat_map given (visits size nr image j b range.low range.high)

-- the entries of a visit, their values decoded
abbrev pub items_of_visit : {X : Type 0} → ℕ → (ℕ → X) → List (List ℕ) → Visit → List (ℕ × X)
items_of_visit {X} size decoded image v = map (item_of decoded) (entries_of_visit size image v)

unfoldable pub saved_below : {X : Type 0} → ℕ → (ℕ → X) → ℕ → List (List ℕ) → ℕ → Range → ℕ → List (ℕ × X)
saved_below {X} size decoded nr image j range b = given_below (items_of_visit size decoded image) size nr image j range b

-- whether a block lies in the metadata and keys are wanted of it
abbrev pub is_wanted : ℕ → ℕ → Range → Bool
is_wanted nr b range = not (is_outside nr b) && nat_lt range.low range.high

-- whether a key is wanted
abbrev pub is_in_range : Range → ℕ → Bool
is_in_range range key = not (nat_lt key range.low) && nat_lt key range.high

-- the entries without those whose keys are below this number, or not above that of an entry before that is kept
unfoldable pub ascending_from : {X : Type 0} → ℕ → List (ℕ × X) → List (ℕ × X)
ascending_from least [] = []
ascending_from least (item ∷ items) =
    if nat_lt item.0 least then ascending_from least items else item ∷ ascending_from (item.0 + 1) items

-- an answer is the first of what was left from this key on, and none where there was none
abbrev pub IsNextFrom : {X : Type 0} → ℕ → Option (ℕ × X) → List (ℕ × X) → List (ℕ × X) → Type 0
IsNextFrom least None old new = (ascending_from least old ≡ []) × (new ≡ [])
IsNextFrom least (Some item) old new = ascending_from least old ≡ item ∷ ascending_from (item.0 + 1) new
