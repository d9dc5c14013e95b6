-- The devices of a mapping tree, and those of a details tree, as two lists of one type.
-- The entries of a mapping tree and of a details tree, as cursors give them, as lists of devices.
use Rattle.std.specs.Prelude.{ℕ, ◌/◌, ◌%◌, ◌^◌, max, List, [], ◌∷◌, length, map, fold, sum_by, ◌≡◌, ◌+◌, Bool, true, false, ◌==◌, ◌&&◌, if◌then◌else◌, Option, Some, None}
use Rattle.std.specs.List.{flat_map}
use Rattle.pd_kinds.specs.Node.{Entry}
use Rattle.pd_kinds.specs.Graph.{Graph}
use Rattle.pd_kinds.specs.ThinFormat.{mapped_time}
use Rattle.pd_kinds.specs.Whole.{top_entries, mapping_entries, details_entries, mapped_number}
use Rattle.pd_value.specs.declared.thin.Root.{Root}
use Rattle.pd_value.specs.declared.thin.Details.{Details}
use Rattle.pd_tree.specs.Cursor.{cursor_nodes}
use Rattle.pd_measures.specs.declared.comparing.ListCursors.{ListCursors}

-- a device, and how many mappings it has
pub record DeviceCount : Type 0 where
  pub id : ℕ
  pub mapped : ℕ

-- how many mappings stand below the root of a device's mappings
unfoldable pub mappings_below : Graph → List (List ℕ) → ℕ → ℕ
mappings_below graph image root = length (mapping_entries graph image root)

-- the devices of the entries of a mapping tree, by how many mappings stand below each root
abbrev pub counts_by_roots : (ℕ → ℕ) → List Entry → List DeviceCount
counts_by_roots below entries = map (λ (e : Entry). record { id = e.key; mapped = below e.value }) entries

-- the devices of the entries of a details tree, by their mapped numbers
abbrev pub counts_by_details : List Entry → List DeviceCount
counts_by_details entries = map (λ (e : Entry). record { id = e.key; mapped = mapped_number e.value }) entries

-- those of both trees
unfoldable pub counts_of_top : Graph → List (List ℕ) → ℕ → List DeviceCount
counts_of_top graph image top = counts_by_roots (mappings_below graph image) (top_entries graph image top)

unfoldable pub counts_of_details : Graph → List (List ℕ) → ℕ → List DeviceCount
counts_of_details graph image details = counts_by_details (details_entries graph image details)

-- a list of devices as pairs of their ids and numbers
abbrev pub pairs_of : List DeviceCount → List (ℕ × ℕ)
pairs_of counts = map (λ (c : DeviceCount). (c.id, c.mapped)) counts

-- how many mappings the devices have
abbrev pub total_of : List DeviceCount → ℕ
total_of counts = sum_by (λ (c : DeviceCount). c.mapped) counts

-- the greatest of some times, and 0 of none
unfoldable pub latest : List ℕ → ℕ
latest times = fold max 0 times

-- the times of the mappings below the root of a device's mappings
abbrev pub mapping_times : Graph → List (List ℕ) → ℕ → List ℕ
mapping_times graph image root = map (λ (e : Entry). mapped_time e.value) (mapping_entries graph image root)

-- the times at which the device of a details entry was made, and last shared
abbrev pub details_times : ℕ → List ℕ
details_times value = value / 2 ^ 128 % 2 ^ 32 ∷ value / 2 ^ 160 ∷ []

-- the latest time of all mappings below a mapping tree, and that of a details tree
unfoldable pub top_time : Graph → List (List ℕ) → ℕ → ℕ
top_time graph image top = latest (flat_map (λ (e : Entry). mapping_times graph image e.value) (top_entries graph image top))

unfoldable pub details_time : Graph → List (List ℕ) → ℕ → ℕ
details_time graph image details = latest (flat_map (λ (e : Entry). details_times e.value) (details_entries graph image details))

-- the sum of the times of the mappings below the root of a device's mappings
unfoldable pub times_below : Graph → List (List ℕ) → ℕ → ℕ
times_below graph image root = sum_by (λ (e : Entry). mapped_time e.value) (mapping_entries graph image root)

-- and of all mappings below a mapping tree
unfoldable pub times_of_top : Graph → List (List ℕ) → ℕ → ℕ
times_of_top graph image top = sum_by (λ (e : Entry). times_below graph image e.value) (top_entries graph image top)

-- the transaction in which the device of a details entry was made
abbrev pub details_transaction_of : ℕ → ℕ
details_transaction_of value = value / 2 ^ 64 % 2 ^ 64

-- the latest transaction of a details tree
unfoldable pub details_transaction : Graph → List (List ℕ) → ℕ → ℕ
details_transaction graph image details = latest (map (λ (e : Entry). details_transaction_of e.value) (details_entries graph image details))

-- the details that a number of 24 bytes stands for
abbrev pub details_of : ℕ → Details
details_of number = record {
  mapped = number % 2 ^ 64;
  transaction = number / 2 ^ 64 % 2 ^ 64;
  created = number / 2 ^ 128 % 2 ^ 32;
  snapped = number / 2 ^ 160;
}

-- an entry as a pair of the device's id and its number of mappings, as its value tells it
abbrev pub key_and_told : {V : Type 0} → (V → ℕ) → ℕ × V → ℕ × ℕ
key_and_told told item = (item.0, told item.1)

-- whether two devices are one
abbrev pub is_one : (ℕ → ℕ) → ℕ × Root → ℕ × Details → Bool
is_one below top detail = (top.0 == detail.0) && (below top.1.0 == detail.1.mapped)

-- whether two lists are
abbrev pub are_one : (ℕ → ℕ) → List (ℕ × Root) → List (ℕ × Details) → Bool
are_one below [] [] = true
are_one below [] (detail ∷ details) = false
are_one below (top ∷ tops) [] = false
are_one below (top ∷ tops) (detail ∷ details) = is_one below top detail && are_one below tops details

-- what the next entries of both say of that, if they decide it
abbrev pub decided : (ℕ → ℕ) → Option (ℕ × Root) → Option (ℕ × Details) → Option Bool
decided below None None = Some true
decided below None (Some detail) = Some false
decided below (Some top) None = Some false
decided below (Some top) (Some detail) = if is_one below top detail then None else Some false

-- how many reads it takes at the most
abbrev pub lists_reads : List (List ℕ) → ListCursors → ℕ
lists_reads image cursors = length (cursor_nodes 8 image cursors.tops) + length (cursor_nodes 24 image cursors.details)

-- what an answer says of what was left of both lists, by what is left of them then
abbrev pub IsDecided : (ℕ → ℕ) → List (ℕ × Root) → List (ℕ × Details) → List (ℕ × Root) → List (ℕ × Details) → Option Bool → Type 0
IsDecided below tops details tops' details' None = are_one below tops details ≡ are_one below tops' details'
IsDecided below tops details tops' details' (Some same) = are_one below tops details ≡ same
