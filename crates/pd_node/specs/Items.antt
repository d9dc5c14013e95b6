-- The items that a node is written from: a key beside a value.
-- What the entries of a node hold, in their order.
-- A leaf whose entries come one by one: their keys and values in their places, and zeros elsewhere.
use Rattle.std.specs.Prelude.{ℕ, List, map, ◌≡◌, ◌+◌, ◌*◌, [], ◌∷◌, ◌++◌}
use Rattle.std.specs.List.{range_with_len}
use Rattle.pd_kinds.specs.Node.{Entry, child_at, entry_count, value_at, key_at, max_entries, puts}
use Rattle.pd_kinds.specs.Field.{le, zeros}

-- the keys of the items
abbrev pub keys_of : {X : Type 0} → List (ℕ × X) → List ℕ
keys_of {X} items = map (λ (item : ℕ × X). item.0) items

-- the values of the items
abbrev pub values_of : {X : Type 0} → List (ℕ × X) → List X
values_of {X} items = map (λ (item : ℕ × X). item.1) items

-- the entries that they become, by the number of a value
abbrev pub entries_of : {X : Type 0} → (X → ℕ) → List (ℕ × X) → List Entry
entries_of {X} code items = map (λ (item : ℕ × X). record { key = item.0; value = code item.1 }) items

-- the values of a leaf, decoded
unfoldable pub node_values : {X : Type 0} → ℕ → (ℕ → X) → List ℕ → List X
node_values {X} size decoded block = map (λ i. decoded (value_at size block i)) (range_with_len 0 (entry_count size block))

-- the blocks that an inner node names
unfoldable pub node_children : ℕ → List ℕ → List ℕ
node_children size block = map (child_at block) (range_with_len 0 (entry_count size block))

-- where the values of a leaf stand
abbrev pub values_at : ℕ → ℕ
values_at size = 32 + 8 * max_entries size

-- the entry in place i
abbrev pub entry_in : ℕ → List ℕ → ℕ → Entry
entry_in size block i = record { key = key_at block i; value = le block (values_at size + size * i) size }

-- the first n entries
abbrev pub entries_in : ℕ → List ℕ → ℕ → List Entry
entries_in size block n = map (entry_in size block) (range_with_len 0 n)

-- the block that has these entries alone
abbrev pub begun_block : ℕ → List Entry → List ℕ
begun_block size entries = puts (puts zeros 32 8 (map (λ (e : Entry). e.key) entries)) (values_at size) size (map (λ (e : Entry). e.value) entries)

-- the block has n entries alone
abbrev pub IsBegun : ℕ → List ℕ → ℕ → Type 0
IsBegun size block n = block ≡ begun_block size (entries_in size block n)

-- a block of n entries, and the block with one more
pub record HasMore (size : ℕ) (old : List ℕ) (n : ℕ) (e : Entry) (new : List ℕ) : Type 0 where
  pub entries : entries_in size new (n + 1) ≡ entries_in size old n ++ e ∷ []
  pub begun : IsBegun size new (n + 1)
