-- What is read of a node that was written.
use Rattle.std.proofs.Common.{◌≡◌, inl, ℕ, ◌+◌, ◌*◌, ◌/◌, ◌%◌, ◌^◌, ◌<◌, ◌≤◌, true, List, length, get_or, refl, ap, ◌∙◌, arith, lit≤, ◌⊎◌, inr, Bool, false, ◌&&◌, ◌||◌, not, nat_eq, ltb, cond, map, sym, eq-eqb}
use Rattle.std.proofs.Math.Nat.{mul-add, mul-le-mul_left, mul-le-mul_right, mul_comm, div-mul-le_self}
use Rattle.std.proofs.lemmas.List.{length-map}
use Rattle.std.specs.List.{range_with_len}
use Rattle.std.proofs.lemmas.List.FromFn.{fill_by_all}
use Rattle.std.proofs.lemmas.Bool.Decides.{nat_tests}
use Rattle.pd_kinds.specs.Field.{le, written, zeros, has_checksum}
use Rattle.pd_kinds.specs.Node.{Entry, puts, node_rows, node_block, node_salt, max_entries, node_flags, node_place, node_entries, node_max, node_value_size, key_at, value_at, are_flags_bad, entry_count, is_ascending, is_inner_node, is_shape_bad, node_bad, node_keys, node_tests}
use Rattle.pd_kinds.proofs.WrittenLemmas.{is_looked_up, looked_up, length-written_zeros, row_read, le-sealed_other}
use Rattle.pd_kinds.proofs.FieldLemmas.{length-puts, le-puts, le-puts_other}
use Rattle.pd_kinds.proofs.KindLemmas.{values_of}
use Rattle.pd_kinds.specs.Trees.{keys_of}
use Rattle.pd_kinds.specs.declared.rule.Rule.{Rule}
use Rattle.pd_kinds.specs.Rule.{alone, failing}

-- what the entries of a written node are like
pub record CanWrite (flags size place : ℕ) (entries : List Entry) : Type 0 where
  pub flags_fit : flags < 2 ^ 32
  pub size_fits : size ≤ 24
  pub place_fits : place < 2 ^ 64
  pub room : length entries ≤ max_entries size
  pub keys_fit : (i : ℕ) → i < length entries → get_or (keys_of entries) i 0 < 2 ^ 64
  pub values_fit : (i : ℕ) → i < length entries → get_or (values_of entries) i 0 < 256 ^ size

-- the greatest number of entries fits the block
pub max_room : (size : ℕ) → max_entries size * (8 + size) ≤ 4064
max_room size =
    let most = 4064 / (8 + size) in
    let multiple : most / 3 * 3 ≤ most = div-mul-le_self most 3 in
    let scaled : most / 3 * 3 * (8 + size) ≤ most * (8 + size) = mul-le-mul_right (8 + size) multiple in
    let whole : most * (8 + size) ≤ 4064 = div-mul-le_self 4064 (8 + size) in
    omega (arith, scaled, whole)

-- so many entries of it end within the block
pub count_room : (size count : ℕ) → count ≤ max_entries size → (32 + 8 * max_entries size + size * count ≤ 4096) × (32 + 8 * count ≤ 4096)
count_room size count within =
    let room = max_room size in
    let parts : max_entries size * (8 + size) ≡ max_entries size * 8 + max_entries size * size = mul-add (max_entries size) 8 size in
    let values : size * count ≤ size * max_entries size = mul-le-mul_left size within in
    let swap = mul_comm (max_entries size) size in
    (omega arith, omega arith)

-- a number of the header reads back when the keys, the values and the checksum are written
header_read : (flags size place : ℕ) (entries : List Entry) (p n v : ℕ) → 4 ≤ p → p + n ≤ 32
    → is_looked_up 4096 p n (node_rows flags size place (length entries)) ≡ true
    → looked_up p n (node_rows flags size place (length entries)) 0 ≡ v % 256 ^ n → v < 256 ^ n
    → le (node_block flags size place entries) p n ≡ v
unfolding node_block
header_read flags size place entries p n v behind within found row fits =
    let rows = node_rows flags size place (length entries) in
    let at = 32 + 8 * max_entries size in
    let keyed = puts (written zeros rows) 32 8 (keys_of entries) in
    le-sealed_other (puts keyed at size (values_of entries)) node_salt p n behind
    ∙ (le-puts_other keyed at size (values_of entries) p n (inl (omega arith))
    ∙ (le-puts_other (written zeros rows) 32 8 (keys_of entries) p n (inl within) ∙ row_read rows p n v found row fits))

pub flags_written : (flags size place : ℕ) (entries : List Entry) → CanWrite flags size place entries → node_flags (node_block flags size place entries) ≡ flags
flags_written flags size place entries can = header_read flags size place entries 4 4 flags (lit≤ tt) (lit≤ tt) refl refl can.flags_fit

pub place_written : (flags size place : ℕ) (entries : List Entry) → CanWrite flags size place entries → node_place (node_block flags size place entries) ≡ place
place_written flags size place entries can = header_read flags size place entries 8 8 place (lit≤ tt) (lit≤ tt) refl refl can.place_fits

max_small : (size : ℕ) → max_entries size < 2 ^ 32
max_small size =
    let some : max_entries size * 1 ≤ max_entries size * (8 + size) = mul-le-mul_left (max_entries size) (omega arith) in
    omega (arith, max_room size)

pub entries_written : (flags size place : ℕ) (entries : List Entry) → CanWrite flags size place entries → node_entries (node_block flags size place entries) ≡ length entries
entries_written flags size place entries can =
    let small : length entries < 2 ^ 32 = omega (arith, max_small size, can.room) in
    header_read flags size place entries 16 4 (length entries) (lit≤ tt) (lit≤ tt) refl refl small

pub max_written : (flags size place : ℕ) (entries : List Entry) → CanWrite flags size place entries → node_max (node_block flags size place entries) ≡ max_entries size
max_written flags size place entries can = header_read flags size place entries 20 4 (max_entries size) (lit≤ tt) (lit≤ tt) refl refl (max_small size)

pub value_size_written : (flags size place : ℕ) (entries : List Entry) → CanWrite flags size place entries → node_value_size (node_block flags size place entries) ≡ size
value_size_written flags size place entries can =
    let small : size < 2 ^ 32 = omega (arith, can.size_fits) in
    header_read flags size place entries 24 4 size (lit≤ tt) (lit≤ tt) refl refl small

-- a key and a value are read back
pub key_written : (flags size place : ℕ) (entries : List Entry) → CanWrite flags size place entries → (i : ℕ) → i < length entries
    → key_at (node_block flags size place entries) i ≡ get_or (keys_of entries) i 0
unfolding node_block
key_written flags size place entries can i h =
    let keys = keys_of entries in
    let count : length keys ≡ length entries = length-map entries (λ (e : Entry). e.key) in
    let header = written zeros (node_rows flags size place (length entries)) in
    let whole = length-written_zeros (node_rows flags size place (length entries)) in
    let at = 32 + 8 * max_entries size in
    let last = (count_room size (length entries) can.room).1 in
    let room = can.room in
    le-sealed_other (puts (puts header 32 8 keys) at size (values_of entries)) node_salt (32 + 8 * i) 8 (omega arith)
    ∙ (le-puts_other (puts header 32 8 keys) at size (values_of entries) (32 + 8 * i) 8 (inl (omega arith))
    ∙ le-puts header 32 8 keys i (omega arith) (omega arith) (can.keys_fit i h))

value_at_max : (flags size place : ℕ) (entries : List Entry) → CanWrite flags size place entries → (i : ℕ) → i < length entries
    → le (node_block flags size place entries) (32 + 8 * max_entries size + size * i) size ≡ get_or (values_of entries) i 0
unfolding node_block
value_at_max flags size place entries can i h =
    let values = values_of entries in
    let count : length values ≡ length entries = length-map entries (λ (e : Entry). e.value) in
    let header = written zeros (node_rows flags size place (length entries)) in
    let keyed = puts header 32 8 (keys_of entries) in
    let whole : length keyed ≡ 4096 = length-puts header 32 8 (keys_of entries) ∙ length-written_zeros (node_rows flags size place (length entries)) in
    let at = 32 + 8 * max_entries size in
    let last : at + size * length values ≤ length keyed = rw (count, whole) (count_room size (length entries) can.room).0 in
    le-sealed_other (puts keyed at size values) node_salt (at + size * i) size (omega arith)
    ∙ le-puts keyed at size values i last (omega arith) (can.values_fit i h)

pub value_written : (flags size place : ℕ) (entries : List Entry) → CanWrite flags size place entries → (i : ℕ) → i < length entries
    → value_at size (node_block flags size place entries) i ≡ get_or (values_of entries) i 0
value_written flags size place entries can i h =
    ap (λ (max : ℕ). le (node_block flags size place entries) (32 + 8 * max + size * i) size) (max_written flags size place entries can)
    ∙ value_at_max flags size place entries can i h

-- A written node breaks no rule, and has just the entries that it was written from.

-- a leaf has values of the wanted size, an inner node block numbers, and at least one
pub record IsKind (flags size leaf_size count : ℕ) : Type 0 where
  pub flags_known : (flags ≡ 1) ⊎ (flags ≡ 2)
  pub size_known : size ≡ cond (nat_eq flags 1) 8 leaf_size
  pub some : flags ≡ 1 → 1 ≤ count

pub is_inner_written : (flags size place : ℕ) (entries : List Entry) → CanWrite flags size place entries → is_inner_node (node_block flags size place entries) ≡ nat_eq flags 1
is_inner_written flags size place entries can = ap (λ (f : ℕ). nat_eq f 1) (flags_written flags size place entries can)

flags_plain : (flags : ℕ) → (flags ≡ 1) ⊎ (flags ≡ 2) → not (nat_eq flags 1 || nat_eq flags 2) ≡ false
flags_plain flags known = elim known [ inl one ↦ rw one refl | inr two ↦ rw two refl ]

flags_sound : (flags size place leaf_size : ℕ) (entries : List Entry) → CanWrite flags size place entries → IsKind flags size leaf_size (length entries)
    → are_flags_bad (node_block flags size place entries) ≡ false
flags_sound flags size place leaf_size entries can kind =
    ap (λ (f : ℕ). not (nat_eq f 1 || nat_eq f 2)) (flags_written flags size place entries can) ∙ flags_plain flags kind.flags_known

some_plain : (flags count : ℕ) → (flags ≡ 1) ⊎ (flags ≡ 2) → (flags ≡ 1 → 1 ≤ count) → (nat_eq flags 1 && nat_eq count 0) ≡ false
some_plain flags count known some = elim known [
  | inl one ↦ let least = some one in grind (arith, nat_tests)
  | inr two ↦ rw two refl
]

shape_plain : (size wanted count max : ℕ) (none : Bool) → size ≡ wanted → count ≤ max → 32 + max * (8 + size) ≤ 4096 → none ≡ false
    → (not (nat_eq size wanted) || (ltb max count || (ltb 4096 (32 + max * (8 + size)) || none))) ≡ false
shape_plain size wanted count max none same within room some = grind (arith, nat_tests)

shape_sound : (flags size place leaf_size : ℕ) (entries : List Entry) → CanWrite flags size place entries → IsKind flags size leaf_size (length entries)
    → is_shape_bad leaf_size (node_block flags size place entries) ≡ false
unfolding is_shape_bad
shape_sound flags size place leaf_size entries can kind =
    let f = flags_written flags size place entries can in
    let e = entries_written flags size place entries can in
    let m = max_written flags size place entries can in
    let v = value_size_written flags size place entries can in
    let room : 32 + max_entries size * (8 + size) ≤ 4096 = omega (arith, max_room size) in
    rw (f, e, m, v)
    (shape_plain size (cond (nat_eq flags 1) 8 leaf_size) (length entries) (max_entries size) (nat_eq flags 1 && nat_eq (length entries) 0)
    kind.size_known can.room room (some_plain flags (length entries) kind.flags_known kind.some))

-- the number of entries
pub count_written : (flags size place leaf_size : ℕ) (entries : List Entry) → CanWrite flags size place entries → IsKind flags size leaf_size (length entries)
    → entry_count leaf_size (node_block flags size place entries) ≡ length entries
unfolding entry_count
count_written flags size place leaf_size entries can kind =
    rw (flags_sound flags size place leaf_size entries can kind, shape_sound flags size place leaf_size entries can kind) (entries_written flags size place entries can)

-- a list that is read back number by number
pub read_back : {X : Type 0} → (read : ℕ → X) (xs : List X) (n : ℕ) (d : X) → length xs ≡ n → ((i : ℕ) → i < n → read i ≡ get_or xs i d) → map read (range_with_len 0 n) ≡ xs
read_back {X} read xs n d count each = sym (fill_by_all read xs n d count (λ i h. sym (each i h)))

pub keys_written : (flags size place leaf_size : ℕ) (entries : List Entry) → CanWrite flags size place entries → IsKind flags size leaf_size (length entries)
    → node_keys leaf_size (node_block flags size place entries) ≡ keys_of entries
unfolding node_keys
keys_written flags size place leaf_size entries can kind =
    rw (count_written flags size place leaf_size entries can kind)
    (read_back (key_at (node_block flags size place entries)) (keys_of entries) (length entries) 0 (length-map entries (λ (e : Entry). e.key)) (key_written flags size place entries can))

pub values_written : (flags size place leaf_size : ℕ) (entries : List Entry) → CanWrite flags size place entries → IsKind flags size leaf_size (length entries)
    → map (value_at size (node_block flags size place entries)) (range_with_len 0 (entry_count leaf_size (node_block flags size place entries))) ≡ values_of entries
values_written flags size place leaf_size entries can kind =
    rw (count_written flags size place leaf_size entries can kind)
    (read_back (value_at size (node_block flags size place entries)) (values_of entries) (length entries) 0 (length-map entries (λ (e : Entry). e.value)) (value_written flags size place entries can))

-- no rule is broken
pub sound_written : (flags size place leaf_size : ℕ) (entries : List Entry) → CanWrite flags size place entries → IsKind flags size leaf_size (length entries)
    → is_ascending (keys_of entries) ≡ true → has_checksum (node_block flags size place entries) node_salt ≡ true
    → (rule : Rule) → node_bad leaf_size place (node_block flags size place entries) rule ≡ false
unfolding node_bad node_tests failing alone
sound_written flags size place leaf_size entries can kind ascend sealed wanted =
    let f = flags_sound flags size place leaf_size entries can kind in
    let s = shape_sound flags size place leaf_size entries can kind in
    let k = keys_written flags size place leaf_size entries can kind in
    let p = eq-eqb (node_place (node_block flags size place entries)) place (place_written flags size place entries can) in
    rw (sealed, k, ascend, f, s, p) refl
