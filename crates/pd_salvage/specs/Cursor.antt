-- What is left of a tree's saved entries.
use Rattle.std.specs.Prelude.{ℕ, ◌+◌, List, ◌++◌}
use Rattle.pd_tree.specs.Cursor.{root_left, root_number}
use Rattle.pd_salvage.specs.declared.cursor.SavedCursor.{SavedCursor}
use Rattle.pd_salvage.specs.Range.{ascending_from, all_keys, saved_below}
use Rattle.pd_salvage.specs.Way.{KnowsUndamaged, saved_on, way_number}

-- the entries that are left
abbrev pub saved_left : {V X : Type 0} → ℕ → (ℕ → X) → List (List ℕ) → SavedCursor V → List (ℕ × X)
saved_left {V} {X} size decoded image cursor =
    ascending_from cursor.least (root_left (saved_below size decoded cursor.nr image 64 all_keys) cursor.root ++ saved_on size decoded cursor.nr image cursor.way)

-- the least key that may come
abbrev pub saved_least : {V : Type 0} → SavedCursor V → ℕ
saved_least cursor = cursor.least

-- a number that falls with each entry
abbrev pub saved_number : {V : Type 0} → ℕ → SavedCursor V → ℕ
saved_number size cursor = root_number cursor.root + way_number size cursor.way

-- what the cursor knows of its places holds of an image
abbrev pub KnowsSaved : {V : Type 0} → ℕ → List (List ℕ) → SavedCursor V → Type 0
KnowsSaved size image cursor = KnowsUndamaged size image cursor.way

-- how many blocks the device must have
abbrev pub saved_room : {V : Type 0} → SavedCursor V → ℕ
saved_room cursor = cursor.nr
