-- What is measured of the entries that stand below a node.
-- A table of measures.
-- What the entries of a pool's trees count for, and entries of a node by their places.
-- The settled trees of one role, and the measures of their nodes.
use Rattle.std.specs.Prelude.{ℕ, ◌+◌, ◌-◌, ◌%◌, ◌^◌, min, max, List, [], ◌∷◌, map, sum_by, length, slice_index_or, ◌*◌, ◌/◌, nat_lt, if◌then◌else◌, ◌≡◌, ◌⊎◌, ◌<◌, ◌==◌, ◌&&◌, ◌||◌, Bool, true}
use Rattle.pd_kinds.specs.Node.{Entry, key_at, value_at}
use Rattle.pd_kinds.specs.ThinFormat.{mapped_time}
use Rattle.pd_kinds.specs.Whole.{mapped_number}
use Rattle.pd_kinds.specs.Graph.{Graph, pair}
use Rattle.pd_kinds.specs.Lawful.{IsLawful}
use Rattle.pd_kinds.specs.Trees.{entries_below}
use Rattle.pd_graph.specs.Marks.{values_of}
use Rattle.pd_graph.specs.declared.notes.Notes.{Notes}
use Rattle.pd_graph.specs.Notes.{note_in, size_of}
use Rattle.pd_settle.specs.Settled.{is_good_node, AreFit, AreSettledIn}
use Rattle.pd_tree.specs.Search.{IsTreeRole}
use Rattle.pd_measures.specs.declared.measures.Measured.{Measured}
use Rattle.pd_measures.specs.Counts.{latest, DeviceCount, details_transaction_of, total_of, mapping_times, mappings_below, times_below}
use Rattle.pd_measures.specs.declared.measures.Measures.{Measures}

-- a number that stays at the end of its type, and one of twice as many bits
abbrev pub capped : ℕ → ℕ
capped n = min n (2 ^ 64 - 1)

abbrev pub capped_sum : ℕ → ℕ
capped_sum n = min n (2 ^ 128 - 1)

-- the measure of entries, by what each of them counts for: their total, their latest time and transaction, the sum of their
-- times, and their fingerprint
unfoldable pub measured : (Entry → Measured) → List Entry → Measured
measured gauge entries = record {
  total = capped (sum_by (λ (e : Entry). (gauge e).total) entries);
  time = latest (map (λ (e : Entry). (gauge e).time) entries);
  transaction = latest (map (λ (e : Entry). (gauge e).transaction) entries);
  times = capped_sum (sum_by (λ (e : Entry). (gauge e).times) entries);
  print = sum_by (λ (e : Entry). (gauge e).print) entries % 2 ^ 64;
}

-- the measure of no entries
abbrev pub no_measure : Measured
no_measure = record { total = 0; time = 0; transaction = 0; times = 0; print = 0 }

-- the measure of entries and of others behind them
abbrev pub join : Measured → Measured → Measured
join a b = record {
  total = capped (a.total + b.total);
  time = max a.time b.time;
  transaction = max a.transaction b.transaction;
  times = capped_sum (a.times + b.times);
  print = (a.print + b.print) % 2 ^ 64;
}

-- the measures below children, one after another
abbrev pub joined : (ℕ → Measured) → Measured → List ℕ → Measured
joined measures sum [] = sum
joined measures sum (c ∷ cs) = joined measures (join sum (measures c)) cs

-- the number of blocks
abbrev pub places_of : Measures → ℕ
places_of measures = length (values_of measures.kept)

-- the measure of a block
abbrev pub measure_at : Measures → ℕ → Measured
measure_at measures b = slice_index_or (values_of measures.kept) b no_measure

-- the entry at a place of a leaf with values of this size
abbrev pub entry_of : ℕ → List ℕ → ℕ → Entry
entry_of size block i = record { key = key_at block i; value = value_at size block i }

-- a device and its number of mappings as one number, and its cube: nothing is used of it but that it is a function
abbrev pub fingerprint_term : ℕ → ℕ → ℕ
fingerprint_term id mapped = (id * 11400714819323198485 % 2 ^ 64 + mapped) % 2 ^ 64

unfoldable pub print_of : ℕ → ℕ → ℕ
print_of id mapped = fingerprint_term id mapped * fingerprint_term id mapped % 2 ^ 64 * fingerprint_term id mapped % 2 ^ 64

-- a mapping, by its time
abbrev pub mappings_gauge : Entry → Measured
mappings_gauge entry = record { total = 0; time = mapped_time entry.value; transaction = 0; times = mapped_time entry.value; print = 0 }

-- the details of a device, by its mapped number, by when it was made and last shared, and by its transaction
abbrev pub details_gauge : Entry → Measured
details_gauge entry = record {
  total = mapped_number entry.value;
  time = max (entry.value / 2 ^ 128 % 2 ^ 32) (entry.value / 2 ^ 160);
  transaction = details_transaction_of entry.value;
  times = 0;
  print = print_of entry.key (mapped_number entry.value);
}

-- how many entries stand below a root, by its note
abbrev pub below_root : Notes → ℕ → ℕ
below_root notes root = if nat_lt root (size_of notes) then (note_in notes root).below else 0

-- the root of a device's mappings, by its note and its measure
abbrev pub top_gauge : Notes → Measures → Entry → Measured
top_gauge notes measures entry = record {
  total = below_root notes entry.value;
  time = (measure_at measures entry.value).time;
  transaction = 0;
  times = (measure_at measures entry.value).times;
  print = print_of entry.key (below_root notes entry.value);
}

-- the measure of a list of devices with a latest time, a latest transaction, and a sum of times
unfoldable pub list_measure : List DeviceCount → ℕ → ℕ → ℕ → Measured
list_measure counts time transaction sum = record {
  total = capped (total_of counts);
  time = time;
  transaction = transaction;
  times = capped_sum sum;
  print = sum_by (λ (c : DeviceCount). print_of c.id c.mapped) counts % 2 ^ 64;
}

-- the notes are those of all blocks, settled in the role of a tree whose leaves have values of this size
pub record AreTrees (graph : Graph) (image : List (List ℕ)) (role size : ℕ) (fit : ℕ → Bool) (notes : Notes) : Type 0 where
  pub lawful : IsLawful graph
  pub known : role < graph.roles
  pub tree : IsTreeRole graph role size
  pub number : size_of notes ≡ graph.nr
  pub sound : AreFit graph image role fit
  pub settled : AreSettledIn graph image role fit notes

-- the measure of each good node is that of the entries below it
pub record AreMeasured (graph : Graph) (image : List (List ℕ)) (role size : ℕ) (fit : ℕ → Bool) (gauge : Entry → Measured) (measures : Measures) : Type 0 where
  pub nodes : (b : ℕ) → b < graph.nr → is_good_node graph image fit true (pair b role) ≡ true
      → measure_at measures b ≡ measured gauge (entries_below graph image size role b)

-- so far the nodes below a height, and those of that height before a block
pub record AreMeasuredTo (graph : Graph) (image : List (List ℕ)) (role size : ℕ) (fit : ℕ → Bool) (gauge : Entry → Measured) (notes : Notes)
    (height before : ℕ) (measures : Measures) : Type 0 where
  pub nodes : (b : ℕ) → b < graph.nr → is_good_node graph image fit true (pair b role) ≡ true
      → ((note_in notes b).height < height) ⊎ (((note_in notes b).height ≡ height) × (b < before))
      → measure_at measures b ≡ measured gauge (entries_below graph image size role b)

-- the blocks that were read by then
abbrev pub was_read : Notes → ℕ → ℕ → ℕ → Bool
was_read notes height before b = nat_lt (note_in notes b).height height || (((note_in notes b).height == height) && nat_lt b before)

-- the notes and the measures tell of the root of a device's mappings how many there are, their latest time, and the sum of
-- their times
pub record AreToldOf (graph : Graph) (image : List (List ℕ)) (notes : Notes) (times : Measures) (root : ℕ) : Type 0 where
  pub number : below_root notes root ≡ mappings_below graph image root
  pub time : (measure_at times root).time ≡ latest (mapping_times graph image root)
  pub sum : (measure_at times root).times ≡ times_below graph image root
