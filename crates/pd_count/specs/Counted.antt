-- What a table of counts tells of each block.
-- The chunks of a table, which stand in groups of 64.
-- The numbers of a chunk, by the form in which they are kept.
use Rattle.std.specs.Prelude.{◌≡◌, ◌≢◌, ℕ, ◌+◌, ◌*◌, ◌/◌, ◌%◌, ◌<◌, ◌==◌, List, [], length, slice_index, slice_index_or, count_by, ◌^◌, if◌then◌else◌, map, count_ones, ◌≤◌, ◌∷◌, take}
use Rattle.std.specs.Int.{bit_at}
use Rattle.std.specs.List.{range_with_len}
use Rattle.pd_count.specs.declared.few.Entry.{Entry}
use Rattle.pd_count.specs.declared.chunk.Form.{Form}
use Rattle.pd_count.specs.declared.chunk.Form.TheVariants.{Few, Dense, Waiting}
use Rattle.pd_count.specs.declared.waiting.WaitingPlaces.{WaitingPlaces}

-- the counts of so many blocks, in chunks of 16320; a chunk without numbers wasn't made
pub record Counted : Type 0 where
  pub size : ℕ
  pub chunks : List (List ℕ)

-- how often a block was counted
unfoldable pub count_of : Counted → ℕ → ℕ
count_of counts b = slice_index (slice_index_or counts.chunks (b / 16320) []) (b % 16320)

-- the counts are those of a list: each block was counted as often as it stands there
abbrev pub HasCounted : Counted → List ℕ → Type 0
HasCounted counts blocks = (b : ℕ) → count_of counts b ≡ count_by (λ r. r == b) blocks

-- a block was counted once more, and no other one
pub record CountsOneMore (b : ℕ) (old new : Counted) : Type 0 where
  pub size : new.size ≡ old.size
  pub counted : count_of new b ≡ count_of old b + 1
  pub others : (c : ℕ) → c ≢ b → count_of new c ≡ count_of old c

-- a number was put at a block, and every other one is as it was
pub record PutsNumber (b number : ℕ) (old new : Counted) : Type 0 where
  pub size : new.size ≡ old.size
  pub put : count_of new b ≡ number
  pub others : (c : ℕ) → c ≢ b → count_of new c ≡ count_of old c

-- a number was put at a place of a chunk, and every other one is as it was
pub record PutsAt (at number : ℕ) (old new : List ℕ) : Type 0 where
  pub put : slice_index new at ≡ number
  pub others : (k : ℕ) → k ≢ at → slice_index new k ≡ slice_index old k

-- these are the counts of chunk i
pub record IsChunk (counts : Counted) (i : ℕ) (numbers : List ℕ) : Type 0 where
  pub full : length numbers ≡ 16320
  pub counted : (k : ℕ) → k < 16320 → slice_index numbers k ≡ count_of counts (16320 * i + k)

-- nothing of chunk i was counted
abbrev pub IsUncounted : Counted → ℕ → Type 0
IsUncounted counts i = (k : ℕ) → k < 16320 → count_of counts (16320 * i + k) ≡ 0

-- chunk i of a group is made where bit i of `made` is set; these chunks alone stand in `chunks`, in their order
pub record Grouped : Type 0 where
  pub made : ℕ
  pub chunks : List (List ℕ)

-- no chunk is made
abbrev pub no_group : Grouped
no_group = record { made = 0; chunks = [] }

-- how many chunks before chunk i are made
unfoldable pub made_before : ℕ → ℕ → ℕ
made_before made i = count_ones (made % 2 ^ i)

-- the numbers of chunk i, or none where it isn't made
unfoldable pub chunk_of : Grouped → ℕ → List ℕ
chunk_of group i = if bit_at group.made i == 1 then slice_index_or group.chunks (made_before group.made i) [] else []

-- chunk i is made, and stands at this place
pub record IsPlace (made len i p : ℕ) : Type 0 where
  pub set : bit_at made i ≡ 1
  pub place : p ≡ made_before made i
  pub within : p < len

-- chunk i stands in group i / 64; it has no numbers where it isn't made, or where that group isn't there
abbrev pub chunk_in : List Grouped → ℕ → List ℕ
chunk_in groups i = chunk_of (slice_index_or groups (i / 64) no_group) (i % 64)

-- the chunks of all groups in their order, 64 for each
unfoldable pub chunks_in : List Grouped → List (List ℕ)
chunks_in groups = map (chunk_in groups) (range_with_len 0 (64 * length groups))

-- a number was put at a place of chunk i of a group, and every other number of the group is as it was
pub record PutsInGroup (i at number : ℕ) (old new : Grouped) : Type 0 where
  pub put : PutsAt at number (chunk_of old i) (chunk_of new i)
  pub others : (j : ℕ) → j ≢ i → chunk_of new j ≡ chunk_of old j

-- the numbers of so many places
unfoldable pub numbers_by : ℕ → (ℕ → ℕ) → List ℕ
numbers_by places number = map number (range_with_len 0 places)

-- the number of a place by the entries: 0 where no entry has the place
abbrev pub entered : List Entry → ℕ → ℕ
entered [] at = 0
entered (e ∷ es) at = if e.place == at then e.number else entered es at

-- the place of entry i
abbrev pub place_at : List Entry → ℕ → ℕ
place_at entries i = let entry = slice_index_or entries i (record { place = 0; number = 0 }) in entry.place

-- the places ascend, and are places of a chunk
pub record AreEntries (entries : List Entry) : Type 0 where
  pub ascend : (i j : ℕ) → i < j → j < length entries → place_at entries i < place_at entries j
  pub places : (i : ℕ) → i < length entries → place_at entries i < 16320

-- entry i has the place
pub record IsAt (entries : List Entry) (at i : ℕ) : Type 0 where
  pub within : i < length entries
  pub place : place_at entries i ≡ at

-- an entry of the place would go to i: the places before it are less, and those from it on are greater
pub record IsGapFor (entries : List Entry) (at i : ℕ) : Type 0 where
  pub within : i ≤ length entries
  pub before : (j : ℕ) → j < i → place_at entries j < at
  pub behind : (j : ℕ) → i ≤ j → j < length entries → at < place_at entries j

-- the number of a place by digits of a byte: the lowest digits of all places, then the second ones, and so on
unfoldable pub digits_number : List ℕ → ℕ → ℕ
digits_number digits at =
    slice_index digits at + 256 * (slice_index digits (16320 + at) + 256 * (slice_index digits (32640 + at) + 256 * slice_index digits (48960 + at)))

-- each place has as many digits, and one at least
pub record AreDigits (digits : List ℕ) : Type 0 where
  pub whole : length digits % 16320 ≡ 0
  pub some : 16320 ≤ length digits

-- so many digits have room for the number
pub record HasRoom (number digits : ℕ) : Type 0 where
  pub second : 256 ≤ number → 32640 ≤ digits
  pub third : 65536 ≤ number → 48960 ≤ digits
  pub fourth : 16777216 ≤ number → 65280 ≤ digits

-- the number of a place with its digits and the first of the places that wait: one more for each time that it is among them
unfoldable pub number_with : WaitingPlaces → ℕ → ℕ → ℕ
number_with w counted at = digits_number w.digits.items at + count_by (λ p. p == at) (take counted w.places.items)

-- the number of a place, with all that wait
abbrev pub waiting_number : WaitingPlaces → ℕ → ℕ
waiting_number w = number_with w (length w.places.items)

-- the numbers of all places are the same
abbrev pub HaveSameNumbers : WaitingPlaces → WaitingPlaces → Type 0
HaveSameNumbers v w = (k : ℕ) → k < 16320 → waiting_number v k ≡ waiting_number w k

-- each place has one digit, and few places of the chunk wait
pub record AreWaiting (w : WaitingPlaces) : Type 0 where
  pub digits : length w.digits.items ≡ 16320
  pub few : length w.places.items ≤ 254
  pub places : (i : ℕ) → i < length w.places.items → slice_index w.places.items i < 16320

-- a number was put at a place, and every other place has what it had
pub record Puts (at number : ℕ) (old new : ℕ → ℕ) : Type 0 where
  pub put : new at ≡ number
  pub others : (k : ℕ) → k ≢ at → k < 16320 → new k ≡ old k

-- no numbers where nothing was counted, else those of all places
abbrev pub few_numbers : List Entry → List ℕ
few_numbers [] = []
few_numbers (e ∷ es) = numbers_by 16320 (entered (e ∷ es))

abbrev pub form_numbers : Form → List ℕ
form_numbers (Few entries) = few_numbers entries.items
form_numbers (Dense digits) = numbers_by 16320 (digits_number digits.items)
form_numbers (Waiting waiting) = numbers_by 16320 (waiting_number waiting.value)

-- the form is as it is to be
abbrev pub IsForm : Form → Type 0
IsForm (Few entries) = AreEntries entries.items
IsForm (Dense digits) = AreDigits digits.items
IsForm (Waiting waiting) = AreWaiting waiting.value
