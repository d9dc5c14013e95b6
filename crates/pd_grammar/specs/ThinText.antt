-- Trusted base.
-- The text of a thin pool: its lines in either version, and what a text of version 1 means.
use Rattle.std.specs.Prelude.{◌≡◌, ℕ, zero, suc, ◌+◌, ◌-◌, ◌^◌, ◌≤◌, ◌==◌, ◌&&◌, ◌||◌, Bool, true, false, not, nat_lt, nat_le, if◌then◌else◌, List, [], ◌∷◌, ◌++◌, map, sum_by, Option, Some, None, codes}
use Rattle.std.specs.List.{flat_map, list_any, range_with_len, AllByRecursion}
use Rattle.pd_kinds.specs.Meaning.{ThinPool, ThinDevice, Mapping}
use Rattle.pd_grammar.specs.declared.cause.TextCause.TheVariants.{Order, OutOfRange, MappedDiffers, Unused}
use Rattle.pd_grammar.specs.declared.value.Value.{Value}
use Rattle.pd_grammar.specs.Texts.{TextFormat, Test, text_of_lines}
use Rattle.pd_grammar.specs.Tables.{numbers, bytes_at, number_at, second_line, later_line, later_line_where, LineKind, Table, format_of}
use Rattle.pd_grammar.specs.Spelling.{Spells}
use Rattle.pd_grammar.specs.Lawful.{IsLawfulPool}
use Rattle.pd_grammar.specs.declared.value.Field.TheVariants as f
use Rattle.pd_grammar.specs.declared.value.Value.TheVariants as v

-- a run of mappings that follow each other
pub record Run : Type 0 where
  pub virtual_block : ℕ
  pub data_block : ℕ
  pub length : ℕ
  pub time : ℕ

-- the words of a pool line
pub record Head : Type 0 where
  pub uuid : List ℕ
  pub time : ℕ
  pub transaction : ℕ
  pub block_size : ℕ
  pub data_blocks : ℕ

-- the words of a leaf line: its number, and of how many mappings it is
pub record LeafHead : Type 0 where
  pub number : ℕ
  pub entries : ℕ

-- the words of a device line
pub record Details : Type 0 where
  pub id : ℕ
  pub mapped : ℕ
  pub transaction : ℕ
  pub created : ℕ
  pub snapped : ℕ

-- a line of a thin text. Version 2 has a first line of its own, leaves that devices share, and uses of these
pub data Line : Type 0 where
  first_line : Line
  shared_first_line : Line
  pool_line : Head → Line
  leaf_line : LeafHead → Line
  device_line : Details → Line
  use_line : ℕ → Line
  map_line : Run → Line
  end_line : Line

-- the values of a line
abbrev pub values_of_line : Line → List Value
values_of_line first_line = []
values_of_line shared_first_line = []
values_of_line (pool_line p) = v.Uuid p.uuid ∷ v.Number p.time ∷ v.Number p.transaction ∷ v.Number p.block_size ∷ v.Number p.data_blocks ∷ []
values_of_line (leaf_line l) = v.Number l.number ∷ v.Number l.entries ∷ []
values_of_line (device_line d) = v.Number d.id ∷ v.Number d.mapped ∷ v.Number d.transaction ∷ v.Number d.created ∷ v.Number d.snapped ∷ []
values_of_line (use_line n) = v.Number n ∷ []
values_of_line (map_line r) = v.Number r.virtual_block ∷ v.Number r.data_block ∷ v.Number r.length ∷ v.Number r.time ∷ []
values_of_line end_line = []

-- Of the lines before one, the newest first:

-- whether the text is of version 2
abbrev pub is_shared : List Line → Bool
is_shared [] = false
is_shared (first_line ∷ before) = is_shared before
is_shared (shared_first_line ∷ before) = true
is_shared (pool_line p ∷ before) = is_shared before
is_shared (leaf_line l ∷ before) = is_shared before
is_shared (device_line d ∷ before) = is_shared before
is_shared (use_line n ∷ before) = is_shared before
is_shared (map_line r ∷ before) = is_shared before
is_shared (end_line ∷ before) = is_shared before

-- the pool's data blocks
abbrev pub data_blocks_of : List Line → ℕ
data_blocks_of [] = 0
data_blocks_of (first_line ∷ before) = data_blocks_of before
data_blocks_of (shared_first_line ∷ before) = data_blocks_of before
data_blocks_of (pool_line p ∷ before) = p.data_blocks
data_blocks_of (leaf_line l ∷ before) = data_blocks_of before
data_blocks_of (device_line d ∷ before) = data_blocks_of before
data_blocks_of (use_line n ∷ before) = data_blocks_of before
data_blocks_of (map_line r ∷ before) = data_blocks_of before
data_blocks_of (end_line ∷ before) = data_blocks_of before

-- the number of leaves
abbrev pub leaf_number : List Line → ℕ
leaf_number [] = 0
leaf_number (first_line ∷ before) = leaf_number before
leaf_number (shared_first_line ∷ before) = leaf_number before
leaf_number (pool_line p ∷ before) = leaf_number before
leaf_number (leaf_line l ∷ before) = suc (leaf_number before)
leaf_number (device_line d ∷ before) = leaf_number before
leaf_number (use_line n ∷ before) = leaf_number before
leaf_number (map_line r ∷ before) = leaf_number before
leaf_number (end_line ∷ before) = leaf_number before

-- the least id that a device line may have: one above the last device's
abbrev pub least_id : List Line → ℕ
least_id [] = 0
least_id (first_line ∷ before) = least_id before
least_id (shared_first_line ∷ before) = least_id before
least_id (pool_line p ∷ before) = least_id before
least_id (leaf_line l ∷ before) = least_id before
least_id (device_line d ∷ before) = d.id + 1
least_id (use_line n ∷ before) = least_id before
least_id (map_line r ∷ before) = least_id before
least_id (end_line ∷ before) = least_id before

-- whether there is a device line
abbrev pub has_device : List Line → Bool
has_device [] = false
has_device (first_line ∷ before) = has_device before
has_device (shared_first_line ∷ before) = has_device before
has_device (pool_line p ∷ before) = has_device before
has_device (leaf_line l ∷ before) = has_device before
has_device (device_line d ∷ before) = true
has_device (use_line n ∷ before) = has_device before
has_device (map_line r ∷ before) = has_device before
has_device (end_line ∷ before) = has_device before

-- whether map lines that come now are those of this leaf
abbrev pub is_in_leaf : List Line → ℕ → Bool
is_in_leaf before number = not (has_device before) && (leaf_number before == suc number)

-- the runs of a leaf, by its number
abbrev pub runs_of_leaf : List Line → ℕ → List Run
runs_of_leaf [] number = []
runs_of_leaf (first_line ∷ before) number = runs_of_leaf before number
runs_of_leaf (shared_first_line ∷ before) number = runs_of_leaf before number
runs_of_leaf (pool_line p ∷ before) number = runs_of_leaf before number
runs_of_leaf (leaf_line l ∷ before) number = runs_of_leaf before number
runs_of_leaf (device_line d ∷ before) number = runs_of_leaf before number
runs_of_leaf (use_line n ∷ before) number = runs_of_leaf before number
runs_of_leaf (map_line r ∷ before) number =
    if is_in_leaf before number then runs_of_leaf before number ++ (r ∷ []) else runs_of_leaf before number
runs_of_leaf (end_line ∷ before) number = runs_of_leaf before number

-- the least virtual block of runs, the end of the last one, and of how many mappings they are
abbrev pub least_of : List Run → ℕ
least_of [] = 0
least_of (r ∷ rs) = r.virtual_block

abbrev pub end_of : List Run → ℕ
end_of [] = 0
end_of (r ∷ []) = r.virtual_block + r.length
end_of (r ∷ s ∷ rs) = end_of (s ∷ rs)

abbrev pub number_in : List Run → ℕ
number_in runs = sum_by (λ (r : Run). r.length) runs

-- the end of the last piece of the last leaf or device: of a run, or of a leaf that it uses
abbrev pub piece_end : List Line → ℕ
piece_end [] = 0
piece_end (first_line ∷ before) = 0
piece_end (shared_first_line ∷ before) = 0
piece_end (pool_line p ∷ before) = 0
piece_end (leaf_line l ∷ before) = 0
piece_end (device_line d ∷ before) = 0
piece_end (use_line n ∷ before) = end_of (runs_of_leaf before n)
piece_end (map_line r ∷ before) = r.virtual_block + r.length
piece_end (end_line ∷ before) = 0

-- how many mappings of the last leaf or device no line has given
abbrev pub unmapped : List Line → ℕ
unmapped [] = 0
unmapped (first_line ∷ before) = 0
unmapped (shared_first_line ∷ before) = 0
unmapped (pool_line p ∷ before) = 0
unmapped (leaf_line l ∷ before) = l.entries
unmapped (device_line d ∷ before) = d.mapped
unmapped (use_line n ∷ before) = unmapped before - number_in (runs_of_leaf before n)
unmapped (map_line r ∷ before) = unmapped before - r.length
unmapped (end_line ∷ before) = 0

-- the leaves that are used, as often as they are
abbrev pub uses_of : List Line → List ℕ
uses_of [] = []
uses_of (first_line ∷ before) = uses_of before
uses_of (shared_first_line ∷ before) = uses_of before
uses_of (pool_line p ∷ before) = uses_of before
uses_of (leaf_line l ∷ before) = uses_of before
uses_of (device_line d ∷ before) = uses_of before
uses_of (use_line n ∷ before) = n ∷ uses_of before
uses_of (map_line r ∷ before) = uses_of before
uses_of (end_line ∷ before) = uses_of before

-- a number of the line isn't in its range, as far as that can be said of one line after others
abbrev pub has_number_out_of_range : List Line → Line → Bool
has_number_out_of_range before first_line = false
has_number_out_of_range before shared_first_line = false
has_number_out_of_range before (pool_line p) =
    not (nat_lt p.time (2 ^ 32) && (nat_lt p.block_size (2 ^ 32) && nat_le p.data_blocks (2 ^ 40)))
has_number_out_of_range before (leaf_line l) = not (nat_le 1 l.entries && nat_le l.entries 252)
has_number_out_of_range before (device_line d) = not (nat_lt d.created (2 ^ 32) && nat_lt d.snapped (2 ^ 32))
has_number_out_of_range before (use_line n) = not (nat_lt n (leaf_number before))
has_number_out_of_range before (map_line r) =
    not (nat_lt 0 r.length && (nat_le (r.virtual_block + r.length) (2 ^ 64)
    && (nat_le (r.data_block + r.length) (data_blocks_of before) && nat_lt r.time (2 ^ 24))))
has_number_out_of_range before end_line = false

-- A line's number isn't the one that follows those of the lines before, or isn't above them. A used leaf begins at its
-- least virtual block
abbrev pub is_out_of_order : List Line → Line → Bool
is_out_of_order before first_line = false
is_out_of_order before shared_first_line = false
is_out_of_order before (pool_line p) = false
is_out_of_order before (leaf_line l) = not (l.number == leaf_number before)
is_out_of_order before (device_line d) = nat_lt d.id (least_id before)
is_out_of_order before (use_line n) = nat_lt (least_of (runs_of_leaf before n)) (piece_end before)
is_out_of_order before (map_line r) = nat_lt r.virtual_block (piece_end before)
is_out_of_order before end_line = false

-- the lines of the last leaf or device give other numbers of mappings than was said
abbrev pub is_mapped_otherwise : List Line → Line → Bool
is_mapped_otherwise before first_line = false
is_mapped_otherwise before shared_first_line = false
is_mapped_otherwise before (pool_line p) = false
is_mapped_otherwise before (leaf_line l) = nat_lt 0 (unmapped before)
is_mapped_otherwise before (device_line d) = nat_lt 0 (unmapped before)
is_mapped_otherwise before (use_line n) = nat_lt (unmapped before) (number_in (runs_of_leaf before n))
is_mapped_otherwise before (map_line r) = nat_lt (unmapped before) r.length
is_mapped_otherwise before end_line = nat_lt 0 (unmapped before)

-- a leaf isn't used
abbrev pub has_unused_leaf : List Line → Bool
has_unused_leaf before =
    list_any (λ number. not (list_any (λ used. used == number) (uses_of before))) (range_with_len 0 (leaf_number before))

-- the text ends, and some leaf isn't used
abbrev pub leaves_one_unused : List Line → Line → Bool
leaves_one_unused before first_line = false
leaves_one_unused before shared_first_line = false
leaves_one_unused before (pool_line p) = false
leaves_one_unused before (leaf_line l) = false
leaves_one_unused before (device_line d) = false
leaves_one_unused before (use_line n) = false
leaves_one_unused before (map_line r) = false
leaves_one_unused before end_line = has_unused_leaf before

-- what is looked at of a line whose words are right, in this order
abbrev pub thin_tests : List (Test Line)
thin_tests =
    record { cause = OutOfRange; fails = has_number_out_of_range }
    ∷ record { cause = Order; fails = is_out_of_order }
    ∷ record { cause = MappedDiffers; fails = is_mapped_otherwise }
    ∷ record { cause = Unused; fails = leaves_one_unused }
    ∷ []

-- Whether a line may stand after these ones: only version 2 has leaves, before all devices, and uses of these, in a
-- device; and a map line is one of a leaf or of a device
abbrev pub may_have_leaf : List Line → Bool
may_have_leaf before = is_shared before && not (has_device before)

abbrev pub may_have_use : List Line → Bool
may_have_use before = is_shared before && has_device before

abbrev pub may_have_map : List Line → Bool
may_have_map before = has_device before || nat_lt 0 (leaf_number before)

-- the kinds of lines after the first one
abbrev pub pool_kind : LineKind Line
pool_kind = record {
  keyword = codes "pool";
  fields = f.Uuid ∷ numbers 4;
  place = second_line;
  make = λ values. pool_line (record {
    uuid = bytes_at values 0;
    time = number_at values 1;
    transaction = number_at values 2;
    block_size = number_at values 3;
    data_blocks = number_at values 4;
  });
}

abbrev pub leaf_kind : LineKind Line
leaf_kind = record {
  keyword = codes "leaf";
  fields = numbers 2;
  place = later_line_where may_have_leaf;
  make = λ values. leaf_line (record { number = number_at values 0; entries = number_at values 1 });
}

abbrev pub device_kind : LineKind Line
device_kind = record {
  keyword = codes "device";
  fields = numbers 5;
  place = later_line;
  make = λ values. device_line (record {
    id = number_at values 0;
    mapped = number_at values 1;
    transaction = number_at values 2;
    created = number_at values 3;
    snapped = number_at values 4;
  });
}

abbrev pub use_kind : LineKind Line
use_kind = record {
  keyword = codes "use";
  fields = numbers 1;
  place = later_line_where may_have_use;
  make = λ values. use_line (number_at values 0);
}

abbrev pub map_kind : LineKind Line
map_kind = record {
  keyword = codes "map";
  fields = numbers 4;
  place = later_line_where may_have_map;
  make = λ values. map_line (record {
    virtual_block = number_at values 0;
    data_block = number_at values 1;
    length = number_at values 2;
    time = number_at values 3;
  });
}

abbrev pub end_kind : LineKind Line
end_kind = record { keyword = codes "end"; fields = []; place = later_line; make = λ values. end_line }

-- the kind of a line
abbrev pub kind_of_line : Line → Option (LineKind Line)
kind_of_line first_line = None
kind_of_line shared_first_line = None
kind_of_line (pool_line p) = Some pool_kind
kind_of_line (leaf_line l) = Some leaf_kind
kind_of_line (device_line d) = Some device_kind
kind_of_line (use_line n) = Some use_kind
kind_of_line (map_line r) = Some map_kind
kind_of_line end_line = Some end_kind

-- the words of a first line
abbrev pub first_words : Line → List (List ℕ)
first_words shared_first_line = codes "thin" ∷ codes "2" ∷ []
first_words line = codes "thin" ∷ codes "1" ∷ []

-- the table of texts that begin with one of these lines
abbrev pub table_from : List Line → Table Line
table_from firsts = record {
  firsts = firsts;
  first_words = first_words;
  kinds = map_kind ∷ use_kind ∷ leaf_kind ∷ device_kind ∷ pool_kind ∷ end_kind ∷ [];
  kind_of = kind_of_line;
  values = values_of_line;
  tests = thin_tests;
}

abbrev pub thin_table : Table Line
thin_table = table_from (first_line ∷ [])

abbrev pub pool_table : Table Line
pool_table = table_from (first_line ∷ shared_first_line ∷ [])

-- texts of thin pools, of version 1 alone, and of either version
abbrev pub thin : TextFormat Line
thin = format_of thin_table

abbrev pub pool_format : TextFormat Line
pool_format = format_of pool_table

-- a device as a text gives it
pub record Part : Type 0 where
  pub details : Details
  pub runs : List Run

-- the mappings of a run, one by one
abbrev pub mappings_from : ℕ → ℕ → ℕ → ℕ → List Mapping
mappings_from virtual_block data_block time zero = []
mappings_from virtual_block data_block time (suc n) =
    record { virtual_block = virtual_block; data_block = data_block; time = time }
    ∷ mappings_from (suc virtual_block) (suc data_block) time n

abbrev pub mappings_of : Run → List Mapping
mappings_of r = mappings_from r.virtual_block r.data_block r.time r.length

-- the device that a part of a text means
abbrev pub device_of_part : Part → ThinDevice
device_of_part p = record {
  id = p.details.id;
  mapped = p.details.mapped;
  transaction = p.details.transaction;
  created = p.details.created;
  snapped = p.details.snapped;
  mappings = flat_map mappings_of p.runs;
}

-- the words of a pool's line
abbrev pub head_of : ThinPool → Head
head_of m = record { uuid = m.uuid; time = m.time; transaction = m.transaction; block_size = m.block_size; data_blocks = m.data_blocks }

-- the lines of a device
abbrev pub lines_of_part : Part → List Line
lines_of_part p = device_line p.details ∷ map map_line p.runs

-- the lines of a text
abbrev pub lines_of_parts : Head → List Part → List Line
lines_of_parts head parts = first_line ∷ pool_line head ∷ (flat_map lines_of_part parts ++ (end_line ∷ []))

-- each run of a part has a mapping
abbrev pub HasMappings : Part → Type 0
HasMappings p = AllByRecursion (λ (r : Run). 1 ≤ r.length) p.runs

-- the lines mean the pool: they are its head, and for each device its line and the map lines of runs whose mappings,
-- written out one by one and joined, are the device's
pub record MeansPool (lines : List Line) (m : ThinPool) : Type 0 where
  pub parts : List Part
  pub lines_are : lines ≡ lines_of_parts (head_of m) parts
  pub devices : map device_of_part parts ≡ m.devices
  pub runs : AllByRecursion HasMappings parts
  pub lawful : IsLawfulPool m

-- the text spells the pool
abbrev pub SpellsPool : List ℕ → ThinPool → Type 0
SpellsPool text m = Spells thin MeansPool text m

-- whether a mapping and the run after it are one run
abbrev pub follows : Mapping → Run → Bool
follows m r = (m.virtual_block + 1 == r.virtual_block) && ((m.data_block + 1 == r.data_block) && (m.time == r.time))

-- a mapping before runs: a longer run where it joins the first one
abbrev pub with_mapping : Mapping → List Run → List Run
with_mapping m [] = record { virtual_block = m.virtual_block; data_block = m.data_block; length = 1; time = m.time } ∷ []
with_mapping m (r ∷ rs) =
    if follows m r
    then record { virtual_block = m.virtual_block; data_block = m.data_block; length = suc r.length; time = m.time } ∷ rs
    else record { virtual_block = m.virtual_block; data_block = m.data_block; length = 1; time = m.time } ∷ r ∷ rs

-- the runs of some mappings, as long as can be
abbrev pub joined_runs : List Mapping → List Run
joined_runs [] = []
joined_runs (m ∷ ms) = with_mapping m (joined_runs ms)

-- a device with the runs of its mappings, as long as can be
abbrev pub joined_part : ThinDevice → Part
joined_part d = record {
  details = record { id = d.id; mapped = d.mapped; transaction = d.transaction; created = d.created; snapped = d.snapped };
  runs = joined_runs d.mappings;
}

-- the one spelling in which no two neighbouring runs join
unfoldable pub text_of_pool : ThinPool → List ℕ
text_of_pool m = text_of_lines thin (lines_of_parts (head_of m) (map joined_part m.devices))

-- one run and the next are one
abbrev pub continues_run : Run → Run → Bool
continues_run r s = (r.virtual_block + r.length == s.virtual_block) && ((r.data_block + r.length == s.data_block) && (r.time == s.time))

-- no two neighbours join
abbrev pub AreApart : List Run → Type 0
AreApart [] = Unit {0}
AreApart (r ∷ []) = Unit {0}
AreApart (r ∷ s ∷ rs) = (continues_run r s ≡ false) × AreApart (s ∷ rs)

-- in no device two neighbouring runs join
abbrev pub AreRunsApart : List Part → Type 0
AreRunsApart parts = AllByRecursion (λ (p : Part). AreApart p.runs) parts
