-- Trusted base.
-- A node of a B-tree, as struct btree_node of "drivers/md/persistent-data/dm-btree-internal.h": a
-- header of 32 bytes, then room for the greatest number of keys, then the values.
use Rattle.std.specs.Prelude.{ℕ, ◌+◌, ◌*◌, ◌/◌, Bool, true, ◌==◌, ◌&&◌, ◌||◌, not, nat_lt, if◌then◌else◌, List, [], ◌∷◌, length, map}
use Rattle.std.specs.List.{range_with_len}
use Rattle.pd_kinds.specs.declared.rule.Rule.{Rule}
use Rattle.pd_kinds.specs.Field.{Row, le, put, written, zeros, has_checksum, sealed}
use Rattle.pd_kinds.specs.Rule.{Test, failing, alone}
use Rattle.pd_kinds.specs.declared.rule.Rule.TheVariants as r

-- the salt of a node's checksum
abbrev pub node_salt : ℕ
node_salt = 121107

-- the fields of the header, which begins with the checksum
abbrev pub node_flags : List ℕ → ℕ
node_flags block = le block 4 4

abbrev pub node_place : List ℕ → ℕ
node_place block = le block 8 8

abbrev pub node_entries : List ℕ → ℕ
node_entries block = le block 16 4

abbrev pub node_max : List ℕ → ℕ
node_max block = le block 20 4

abbrev pub node_value_size : List ℕ → ℕ
node_value_size block = le block 24 4

-- the flags of an inner node are 1, those of a leaf 2
abbrev pub is_inner_node : List ℕ → Bool
is_inner_node block = node_flags block == 1

abbrev pub are_flags_bad : List ℕ → Bool
are_flags_bad block = not (node_flags block == 1 || node_flags block == 2)

-- a leaf has values of this size, an inner node block numbers of 8 bytes, and at least one; the entries
-- are at most the greatest number, and that many fit the block
unfoldable pub is_shape_bad : ℕ → List ℕ → Bool
is_shape_bad size block =
    not (node_value_size block == (if is_inner_node block then 8 else size))
    || (nat_lt (node_max block) (node_entries block)
    || (nat_lt 4096 (32 + node_max block * (8 + node_value_size block))
    || (is_inner_node block && (node_entries block == 0))))

-- the number of entries where the flags and the shape are those of a node with leaf values of this
-- size, and 0 elsewhere
unfoldable pub entry_count : ℕ → List ℕ → ℕ
entry_count size block = if are_flags_bad block || is_shape_bad size block then 0 else node_entries block

-- the key of entry i
abbrev pub key_at : List ℕ → ℕ → ℕ
key_at block i = le block (32 + 8 * i) 8

-- the value of entry i, of this size
abbrev pub value_at : ℕ → List ℕ → ℕ → ℕ
value_at size block i = le block (32 + 8 * node_max block + size * i) size

-- the block that entry i of an inner node names
abbrev pub child_at : List ℕ → ℕ → ℕ
child_at block i = value_at 8 block i

-- the keys of the entries, in their order
unfoldable pub node_keys : ℕ → List ℕ → List ℕ
node_keys size block = map (key_at block) (range_with_len 0 (entry_count size block))

-- whether each number is below the next one
unfoldable pub is_ascending : List ℕ → Bool
is_ascending [] = true
is_ascending (x ∷ []) = true
is_ascending (x ∷ y ∷ rest) = nat_lt x y && is_ascending (y ∷ rest)

-- the rules of a node with leaf values of this size that are looked at each by itself, up to Order
unfoldable pub node_tests : ℕ → ℕ → List ℕ → List Test
node_tests size place block =
    record { rule = r.Order; fails = not (is_ascending (node_keys size block)) }
    ∷ record { rule = r.Shape; fails = not (are_flags_bad block) && is_shape_bad size block }
    ∷ record { rule = r.Flags; fails = are_flags_bad block }
    ∷ record { rule = r.Place; fails = not (node_place block == place) }
    ∷ []

-- the rules up to Order that the node in this place breaks: a wrong checksum comes alone
unfoldable pub node_bad : ℕ → ℕ → List ℕ → Rule → Bool
node_bad size place block =
    alone r.Checksum (not (has_checksum block node_salt)) (failing (node_tests size place block))

-- the greatest number of entries that is written: the greatest multiple of 3 that fits the block
abbrev pub max_entries : ℕ → ℕ
max_entries size = 4064 / (8 + size) / 3 * 3

-- a row of numbers of this width from offset o on
unfoldable pub puts : List ℕ → ℕ → ℕ → List ℕ → List ℕ
puts block o width [] = block
puts block o width (x ∷ xs) = puts (put block o width x) (o + width) width xs

-- an entry: its key and its value's number
pub record Entry : Type 0 where
  pub key : ℕ
  pub value : ℕ

-- the header of a node, but for the checksum
abbrev pub node_rows : ℕ → ℕ → ℕ → ℕ → List Row
node_rows flags size place count =
    record { offset = 4; size = 4; value = flags }
    ∷ record { offset = 8; size = 8; value = place }
    ∷ record { offset = 16; size = 4; value = count }
    ∷ record { offset = 20; size = 4; value = max_entries size }
    ∷ record { offset = 24; size = 4; value = size }
    ∷ []

-- the node of these entries in its place: every other byte is 0
unfoldable pub node_block : ℕ → ℕ → ℕ → List Entry → List ℕ
node_block flags size place entries =
    sealed
    (puts
    (puts (written zeros (node_rows flags size place (length entries))) 32 8 (map (λ (e : Entry). e.key) entries))
    (32 + 8 * max_entries size) size (map (λ (e : Entry). e.value) entries))
    node_salt

-- a leaf, and an inner node
abbrev pub leaf_block : ℕ → ℕ → List Entry → List ℕ
leaf_block size place entries = node_block 2 size place entries

abbrev pub inner_block : ℕ → List Entry → List ℕ
inner_block place entries = node_block 1 8 place entries
