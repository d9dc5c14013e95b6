-- A leaf whose entries come one by one.
use Rattle.std.proofs.Common.{◌≡◌, ◌≢◌, ◌⊎◌, inl, inr, ℕ, zero, suc, ◌+◌, ◌*◌, ◌/◌, ◌%◌, ◌^◌, ◌<◌, ◌≤◌, List, [], ◌∷◌, ◌++◌, length, set, refl, ap, ap₂, sym, ◌∙◌, arith}
use Rattle.std.specs.List.{AllByRecursion}
use Rattle.std.proofs.lemmas.List.{set_comm, map-append, length-map}
use Rattle.std.proofs.lemmas.List.FromFn.{map-range_with_len_more, get_or-map-range_with_len, length-map-range_with_len, fill_by_all}
use Rattle.std.proofs.Math.Nat.{mul-le-mul_left, mul-suc}
use Rattle.pd_kinds.specs.Field.{Row, le, put, written, zeros, sealed}
use Rattle.pd_kinds.specs.Node.{Entry, max_entries, puts, node_rows, node_salt, node_block}
use Rattle.pd_kinds.proofs.FieldLemmas.{length-put, le-put, le-put_other, length-puts, puts_more}
use Rattle.pd_kinds.proofs.WrittenLemmas.{length-zeros}
use Rattle.pd_kinds.proofs.KindLemmas.{values_of}
use Rattle.pd_kinds.specs.Trees.{keys_of}
use Rattle.pd_node.specs.Items.{HasMore, IsBegun, values_at, entry_in, entries_in, begun_block}
use Rattle.pd_node.proofs.Written.{count_room}

-- a byte outside a field may be written before the field
set-put : (b : List ℕ) (o k v j a : ℕ) → ((j < o) ⊎ (o + k ≤ j)) → set (put b o k v) j a ≡ put (set b j a) o k v
unfolding put
set-put b o zero v j a apart = refl
set-put b o (suc k) v j a apart =
    let other : o + k ≢ j = elim apart [ inl h ↦ λ same. absurd (omega arith) | inr h ↦ λ same. absurd (omega arith) ] in
    set_comm (put b o k v) (o + k) j (v / 256 ^ k % 256) a other
    ∙ ap (λ (c : List ℕ). set c (o + k) (v / 256 ^ k % 256)) (set-put b o k v j a (elim apart [ inl h ↦ inl h | inr h ↦ inr (omega arith) ]))

-- a field before another may be written before it
put-put : (b : List ℕ) (o k v p n w : ℕ) → p + n ≤ o → put (put b o k v) p n w ≡ put (put b p n w) o k v
unfolding put
put-put b o k v p zero w before = refl
put-put b o k v p (suc n) w before =
    ap (λ (c : List ℕ). set c (p + n) (w / 256 ^ n % 256)) (put-put b o k v p n w (omega arith))
    ∙ set-put (put b p n w) o k v (p + n) (w / 256 ^ n % 256) (inl (omega arith))

-- a field before a row may be written before the row
put-puts : (b : List ℕ) (o width : ℕ) (xs : List ℕ) (p n w : ℕ) → p + n ≤ o → put (puts b o width xs) p n w ≡ puts (put b p n w) o width xs
unfolding puts
put-puts b o width [] p n w before = refl
put-puts b o width (x ∷ xs) p n w before =
    put-puts (put b o width x) (o + width) width xs p n w (omega arith)
    ∙ ap (λ (c : List ℕ). puts c (o + width) width xs) (put-put b o width x p n w before)

-- a table of such fields too
written-puts : (b : List ℕ) (o width : ℕ) (xs : List ℕ) (rows : List Row) → AllByRecursion (λ (row : Row). row.offset + row.size ≤ o) rows
    → written (puts b o width xs) rows ≡ puts (written b rows) o width xs
unfolding written
written-puts b o width xs [] before = refl
written-puts b o width xs (row ∷ rows) before =
    ap (λ (c : List ℕ). written c rows) (put-puts b o width xs row.offset row.size row.value before.0)
    ∙ written-puts (put b row.offset row.size row.value) o width xs rows before.1

-- the block with an entry in place i
abbrev pub with_entry : ℕ → List ℕ → ℕ → Entry → List ℕ
with_entry size block i e = put (put block (32 + 8 * i) 8 e.key) (values_at size + size * i) size e.value

-- an entry more in its place
begun_more : (size : ℕ) (entries : List Entry) (e : Entry) → length entries < max_entries size
    → with_entry size (begun_block size entries) (length entries) e ≡ begun_block size (entries ++ e ∷ [])
begun_more size entries e within =
    let keys = keys_of entries in
    let values = values_of entries in
    let key_count : length keys ≡ length entries = length-map entries (λ (e : Entry). e.key) in
    let value_count : length values ≡ length entries = length-map entries (λ (e : Entry). e.value) in
    let behind : 32 + 8 * length entries + 8 ≤ values_at size = omega arith in
    let moved = put-puts (puts zeros 32 8 keys) (values_at size) size values (32 + 8 * length entries) 8 e.key behind in
    let key_more : put (puts zeros 32 8 keys) (32 + 8 * length entries) 8 e.key ≡ puts zeros 32 8 (keys ++ e.key ∷ []) =
    ap (λ (n : ℕ). put (puts zeros 32 8 keys) (32 + 8 * n) 8 e.key) (sym key_count) ∙ sym (puts_more zeros 32 8 keys e.key) in
    let row = puts (put (puts zeros 32 8 keys) (32 + 8 * length entries) 8 e.key) (values_at size) size values in
    let value_more : put row (values_at size + size * length entries) size e.value ≡ puts (put (puts zeros 32 8 keys) (32 + 8 * length entries) 8 e.key) (values_at size) size (values ++ e.value ∷ []) =
    ap (λ (n : ℕ). put row (values_at size + size * n) size e.value) (sym value_count) ∙ sym (puts_more (put (puts zeros 32 8 keys) (32 + 8 * length entries) 8 e.key) (values_at size) size values e.value) in
    ap (λ (c : List ℕ). put c (values_at size + size * length entries) size e.value) moved
    ∙ (value_more
    ∙ (ap (λ (c : List ℕ). puts c (values_at size) size (values ++ e.value ∷ [])) key_more
    ∙ sym (ap₂ (λ (ks vs : List ℕ). puts (puts zeros 32 8 ks) (values_at size) size vs) (map-append (λ (e : Entry). e.key) entries (e ∷ [])) (map-append (λ (e : Entry). e.value) entries (e ∷ [])))))

-- what is read then
read_more : (size : ℕ) (block : List ℕ) (n : ℕ) (e : Entry) → length block ≡ 4096 → n < max_entries size → e.key < 2 ^ 64 → e.value < 256 ^ size
    → entries_in size (with_entry size block n e) (n + 1) ≡ entries_in size block n ++ e ∷ []
read_more size block n e whole within key_fits value_fits =
    let room = count_room size (n + 1) (omega arith) in
    let ends : size * (n + 1) ≡ size * n + size = omega (arith, mul-suc size n) in
    let keyed = put block (32 + 8 * n) 8 e.key in
    let at = values_at size + size * n in
    let len : length keyed ≡ 4096 = length-put block (32 + 8 * n) 8 e.key ∙ whole in
    let key_is : le (put keyed at size e.value) (32 + 8 * n) 8 ≡ e.key =
    le-put_other keyed at size e.value (32 + 8 * n) 8 (inl (omega arith)) ∙ le-put block (32 + 8 * n) 8 e.key (omega arith) key_fits in
    let value_is : le (put keyed at size e.value) at size ≡ e.value = le-put keyed at size e.value (omega arith) value_fits in
    let last : entry_in size (with_entry size block n e) n ≡ e = ap₂ (λ (k v : ℕ). record { key = k; value = v }) key_is value_is in
    let new = with_entry size block n e in
    let kept : (i : ℕ) → i < n → entry_in size new i ≡ entry_in size block i = λ i h.
    let below : size * i + size ≤ size * n = omega (arith, mul-suc size i, mul-le-mul_left size h) in
    ap₂ (λ (k v : ℕ). record { key = k; value = v })
    (le-put_other keyed at size e.value (32 + 8 * i) 8 (inl (omega arith)) ∙ le-put_other block (32 + 8 * n) 8 e.key (32 + 8 * i) 8 (inl (omega arith)))
    (le-put_other keyed at size e.value (values_at size + size * i) size (inl (omega arith)) ∙ le-put_other block (32 + 8 * n) 8 e.key (values_at size + size * i) size (inr (omega arith))) in
    let others : entries_in size new n ≡ entries_in size block n =
    sym (fill_by_all (entry_in size new) (entries_in size block n) n e (length-map-range_with_len (entry_in size block) 0 n)
    (λ i h. get_or-map-range_with_len (entry_in size block) 0 n i i e h (omega arith) ∙ sym (kept i h))) in
    map-range_with_len_more (entry_in size new) 0 n n (omega arith)
    ∙ ap₂ (λ (es : List Entry) (x : Entry). es ++ x ∷ []) others last

-- the block with its header and its checksum is the node
pub begun_is_node : (flags size place : ℕ) (entries : List Entry)
    → sealed (written (begun_block size entries) (node_rows flags size place (length entries))) node_salt ≡ node_block flags size place entries
unfolding node_block
begun_is_node flags size place entries =
    let rows = node_rows flags size place (length entries) in
    let keys = keys_of entries in
    let values = values_of entries in
    ap (λ (c : List ℕ). sealed c node_salt)
    (written-puts (puts zeros 32 8 keys) (values_at size) size values rows (omega arith, (omega arith, (omega arith, (omega arith, (omega arith, tt)))))
    ∙ ap (λ (c : List ℕ). puts c (values_at size) size values) (written-puts zeros 32 8 keys rows (omega arith, (omega arith, (omega arith, (omega arith, (omega arith, tt)))))))

-- the length of a block
length-begun : (size : ℕ) (entries : List Entry) → length (begun_block size entries) ≡ 4096
length-begun size entries =
    length-puts (puts zeros 32 8 (keys_of entries)) (values_at size) size (values_of entries)
    ∙ (length-puts zeros 32 8 (keys_of entries) ∙ length-zeros)

-- the block without entries
pub begun_none : (size : ℕ) → zeros ≡ begun_block size []
unfolding puts
begun_none size = refl

-- how many entries are read
pub length-entries_in : (size : ℕ) (block : List ℕ) (n : ℕ) → length (entries_in size block n) ≡ n
length-entries_in size block n = length-map-range_with_len (entry_in size block) 0 n

-- the block with an entry in its place has one more
pub more_of : (size : ℕ) (block : List ℕ) (n : ℕ) (e : Entry) → IsBegun size block n → n < max_entries size → e.key < 2 ^ 64 → e.value < 256 ^ size
    → HasMore size block n e (with_entry size block n e)
more_of size block n e begun within key_fits value_fits =
    let before = entries_in size block n in
    let count = length-entries_in size block n in
    let whole : length block ≡ 4096 = ap length begun ∙ length-begun size before in
    let entries = read_more size block n e whole within key_fits value_fits in
    record {
      entries = entries;
      begun = rw entries (ap₂ (λ (b : List ℕ) (k : ℕ). with_entry size b k e) begun (sym count) ∙ begun_more size before e (omega arith));
    }

-- with its header and its checksum it is the leaf
pub leaf_of : (size place : ℕ) (block : List ℕ) (n : ℕ) → IsBegun size block n
    → sealed (written block (node_rows 2 size place n)) node_salt ≡ node_block 2 size place (entries_in size block n)
leaf_of size place block n begun =
    ap₂ (λ (b : List ℕ) (k : ℕ). sealed (written b (node_rows 2 size place k)) node_salt) begun (sym (length-entries_in size block n))
    ∙ begun_is_node 2 size place (entries_in size block n)
