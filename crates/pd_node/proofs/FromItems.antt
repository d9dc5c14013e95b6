-- The entries that items become.
use Rattle.std.proofs.Common.{◌≡◌, ℕ, ◌+◌, ◌*◌, ◌<◌, ◌≤◌, ◌^◌, List, [], ◌∷◌, length, map, get_or, refl, ap, sym, ◌∙◌}
use Rattle.std.specs.List.{All}
use Rattle.std.proofs.lemmas.List.{length-map, get_or-map}
use Rattle.pd_kinds.specs.Field.{written, zeros, sealed}
use Rattle.pd_kinds.specs.Node.{max_entries, node_block, node_rows, node_salt, puts, value_at, entry_count}
use Rattle.pd_kinds.proofs.KindLemmas.{values_of as entry_values}
use Rattle.pd_kinds.specs.Trees.{keys_of as entry_keys}
use Rattle.pd_node.specs.Items.{entries_of, keys_of, values_of, node_values}
use Rattle.pd_node.proofs.Written.{CanWrite, value_written, read_back}
use Rattle.pd_node.proofs.Begun.{begun_is_node}

-- the numbers of the items' values
abbrev pub codes_of : {X : Type 0} → (X → ℕ) → List (ℕ × X) → List ℕ
codes_of {X} code items = map (λ (item : ℕ × X). code item.1) items

pub keys_kept : {X : Type 0} → (code : X → ℕ) (items : List (ℕ × X)) → entry_keys (entries_of code items) ≡ keys_of items
keys_kept {X} code [] = refl
keys_kept {X} code (item ∷ items) = ap (λ (rest : List ℕ). item.0 ∷ rest) (keys_kept code items)

pub codes_kept : {X : Type 0} → (code : X → ℕ) (items : List (ℕ × X)) → entry_values (entries_of code items) ≡ codes_of code items
codes_kept {X} code [] = refl
codes_kept {X} code (item ∷ items) = ap (λ (rest : List ℕ). code item.1 ∷ rest) (codes_kept code items)

pub count_kept : {X : Type 0} → (code : X → ℕ) (items : List (ℕ × X)) → length (entries_of code items) ≡ length items
count_kept {X} code items = length-map items (λ (item : ℕ × X). record { key = item.0; value = code item.1 })

-- the block that the code writes is the node of the entries
pub node_is : {X : Type 0} → (code : X → ℕ) (items : List (ℕ × X)) (flags size place : ℕ)
    → sealed (written (puts (puts zeros 32 8 (keys_of items)) (32 + 8 * max_entries size) size (codes_of code items)) (node_rows flags size place (length items))) node_salt
    ≡ node_block flags size place (entries_of code items)
node_is {X} code items flags size place =
    let keys = keys_kept code items in
    let codes = codes_kept code items in
    let count = count_kept code items in
    rw (keys, codes, count) at (begun_is_node flags size place (entries_of code items))

-- each item's number fits if each item's value does
pub can_write : {X : Type 0} → (code : X → ℕ) (items : List (ℕ × X)) (flags size place : ℕ) → flags < 2 ^ 32 → size ≤ 24 → place < 2 ^ 64 → length items ≤ max_entries size
    → ((i : ℕ) → i < length items → get_or (keys_of items) i 0 < 2 ^ 64) → ((i : ℕ) → i < length items → get_or (codes_of code items) i 0 < 256 ^ size)
    → CanWrite flags size place (entries_of code items)
can_write {X} code items flags size place flags_fit size_fits place_fits room keys values =
    let count = count_kept code items in
    record {
      flags_fit = flags_fit;
      size_fits = size_fits;
      place_fits = place_fits;
      room = rw count room;
      keys_fit = λ i h. let within = rw count at h in rw (keys_kept code items) (keys i within);
      values_fit = λ i h. let within = rw count at h in rw (codes_kept code items) (values i within);
    }

-- what holds of each item's value's number
pub codes_below : {X : Type 0} → (code : X → ℕ) (items : List (ℕ × X)) (limit : ℕ) (unused : X) → All (λ item. code item.1 < limit) items
    → (i : ℕ) → i < length items → get_or (codes_of code items) i 0 < limit
codes_below {X} code items limit unused below i h =
    rw (get_or-map (λ (item : ℕ × X). code item.1) items i (0, unused) 0 h) (below i (0, unused) h)

-- the values are read back decoded
pub values_kept : {X : Type 0} → (code : X → ℕ) (decoded : ℕ → X) (items : List (ℕ × X)) (flags size place : ℕ) → CanWrite flags size place (entries_of code items)
    → entry_count size (node_block flags size place (entries_of code items)) ≡ length items → All (λ item. decoded (code item.1) ≡ item.1) items
    → node_values size decoded (node_block flags size place (entries_of code items)) ≡ values_of items
unfolding node_values
values_kept {X} code decoded items flags size place can count each =
    let block = node_block flags size place (entries_of code items) in
    let unused : ℕ × X = (0, decoded 0) in
    let entries = count_kept code items in
    rw count
    (read_back (λ i. decoded (value_at size block i)) (values_of items) (length items) (decoded 0) (length-map items (λ (item : ℕ × X). item.1))
    (λ i h. let within = rw (sym entries) at h in
    let number : value_at size block i ≡ code (get_or items i unused).1 =
    value_written flags size place (entries_of code items) can i within
    ∙ (ap (λ (codes : List ℕ). get_or codes i 0) (codes_kept code items) ∙ get_or-map (λ (item : ℕ × X). code item.1) items i unused 0 h) in
    ap decoded number ∙ (each i unused h ∙ sym (get_or-map (λ (item : ℕ × X). item.1) items i unused (decoded 0) h))))
