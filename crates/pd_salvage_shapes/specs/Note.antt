-- What is noted of a leaf: the mappings that are saved of it in a range of keys.
-- What is met of a device's mappings: of each visit the mappings that it saves, and its leaf where these are all of it.
-- Numbers that are held as ranges of numbers in a row.
use Rattle.std.specs.Prelude.{ℕ, if◌then◌else◌, List, [], ◌∷◌, Option, Some, None, ◌≡◌, ◌+◌, ◌^◌, ◌<◌, ◌≤◌, ◌==◌, ◌&&◌, Bool, true, false, nat_lt, nat_le, length, map, filter, ◌%◌, ◌++◌}
use Rattle.std.specs.List.{flat_map, range_with_len}
use Rattle.pd_kinds.specs.Meaning.{Mapping}
use Rattle.pd_kinds.specs.ThinFormat.{ThinFields, mapped_block, mapped_time}
use Rattle.pd_kinds.specs.Layout.{leaf_entries}
use Rattle.pd_kinds.specs.Node.{Entry, entry_count, is_inner_node, key_at}
use Rattle.pd_grammar.specs.Lawful.{AreMappings}
use Rattle.pd_grammar.specs.ThinText.{joined_runs}
use Rattle.pd_laid.specs.Salvage.{Visit, is_whole_visit, saved_of_visit, is_damaged}
use Rattle.pd_meaning_thin.specs.declared.joined.Run.{Run}
use Rattle.pd_meaning_thin.specs.Runs.{spelled}
use Rattle.pd_salvage.specs.declared.way.Range.{Range}
use Rattle.pd_salvage.specs.declared.way.Way.{Way}
use Rattle.pd_salvage.specs.Range.{all_keys, given_below, is_in_range}
use Rattle.pd_salvage.specs.Way.{told_on}
use Rattle.pd_salvage.specs.Gather.{IsJoining, mappings_of_runs}
use Rattle.pd_salvage_shapes.specs.declared.note.LeafGathering.{LeafGathering}
use Rattle.pd_salvage_shapes.specs.declared.note.LeafNote.{LeafNote}
use Rattle.pd_salvage_shapes.specs.declared.numbers.NumberRange.{NumberRange}

-- some mappings, and the leaf whose mappings they are, where they are all of a leaf
pub record Met : Type 0 where
  pub leaf : Option ℕ
  pub mappings : List Mapping

-- without mappings nothing is met
abbrev pub met_of : Option ℕ → List Mapping → List Met
met_of leaf [] = []
met_of leaf (m ∷ ms) = record { leaf = leaf; mappings = m ∷ ms } ∷ []

-- what is met by a visit
abbrev pub met_of_visit : ThinFields → List (List ℕ) → Visit → List Met
met_of_visit fields image v = met_of (if is_whole_visit fields image v then Some v.leaf else None) (saved_of_visit fields image v)

-- what is met below a block in a range of keys, by paths of at most so many nodes
unfoldable pub mets_below : ThinFields → List (List ℕ) → ℕ → Range → ℕ → List Met
mets_below fields image j range b = given_below (met_of_visit fields image) 8 fields.meta_map.blocks image j range b

-- what is met below a root
abbrev pub mets_of_root : ThinFields → List (List ℕ) → ℕ → List Met
mets_of_root fields image root = mets_below fields image 64 all_keys root

-- what is met of what is left on a way: an entry gives nothing, as leaves are visited whole
abbrev pub way_left : ThinFields → List (List ℕ) → Way → List Met
way_left fields image way = told_on (λ e. []) (mets_below fields image) 8 way

-- the mapping of an entry
abbrev pub mapping_of_entry : Entry → Mapping
mapping_of_entry e = record { virtual_block = e.key; data_block = mapped_block e.value; time = mapped_time e.value }

-- the mappings of those entries that are in a range of keys and whose data blocks are below a number
abbrev pub saved_in : ℕ → Range → List Entry → List Mapping
saved_in blocks range entries =
    map mapping_of_entry (filter (λ (e : Entry). nat_lt (mapped_block e.value) blocks) (filter (λ (e : Entry). is_in_range range e.key) entries))

-- what is saved of a leaf at a place in a range: nothing where it is damaged
abbrev pub saved_at : ℕ → ℕ → List ℕ → Range → List Mapping
saved_at blocks place block range = if is_damaged 8 place block then [] else saved_in blocks range (leaf_entries 8 block)

-- the least key, and the end of the keys
abbrev pub first_key : List Mapping → ℕ
first_key [] = 0
first_key (m ∷ ms) = m.virtual_block

abbrev pub end_key : List Mapping → ℕ
end_key [] = 0
end_key (m ∷ []) = m.virtual_block + 1
end_key (m ∷ n ∷ ms) = end_key (n ∷ ms)

-- the mappings that are noted
abbrev pub noted : LeafNote → List Mapping
noted note = mappings_of_runs note.runs

-- a note's mappings are lawful, its runs are as long as can be, and its numbers are those of its mappings
pub record IsNote (blocks : ℕ) (note : LeafNote) : Type 0 where
  pub lawful : AreMappings blocks 0 (noted note)
  pub joined : joined_runs (noted note) ≡ map spelled note.runs
  pub counted : note.entries ≡ length (noted note)
  pub first : note.first ≡ first_key (noted note)
  pub end : note.end ≡ end_key (noted note)
  pub sized : note.full ≡ true → (1 ≤ note.entries) × (note.entries ≤ 252)

-- whether some mappings are all of a leaf, of which it has 1 to 252
abbrev pub is_all_of : List ℕ → List Mapping → Bool
is_all_of block ms = let number = length (leaf_entries 8 block) in (length ms == number) && (nat_le 1 number && nat_le number 252)

-- it is the note of a block in a range of keys
pub record Notes (blocks place : ℕ) (block : List ℕ) (range : Range) (note : LeafNote) : Type 0 where
  pub at : note.block ≡ place
  pub mappings : noted note ≡ saved_at blocks place block range
  pub full : note.full ≡ is_all_of block (noted note)
  pub fits : is_damaged 8 place block ≡ false → is_inner_node block ≡ false → (i : ℕ) → i < entry_count 8 block → key_at block i < 2 ^ 64

-- these mappings were gathered of a leaf
pub record IsGathered (runs : List Run) (gathering : LeafGathering) (ms : List Mapping) : Type 0 where
  pub joining : IsJoining [] runs gathering.joining ms
  pub mapped : gathering.mapped ≡ length ms
  pub first : gathering.first ≡ first_key ms
  pub end : gathering.end ≡ end_key ms

-- the mappings in a range of keys
abbrev pub in_keys : Range → List Mapping → List Mapping
in_keys range ms = filter (λ (m : Mapping). is_in_range range m.virtual_block) ms

-- what a visit of a noted leaf meets in a range of keys
abbrev pub met_in : LeafNote → Range → List Met
met_in note range =
    let ms = in_keys range (noted note) in met_of (if note.full && (length ms == length (noted note)) then Some note.block else None) ms

-- what a note of a device's own, or of all of its leaf, meets
abbrev pub met_of_note : LeafNote → List Met
met_of_note note = met_of (if note.full then Some note.block else None) (noted note)

-- the numbers of a range
abbrev pub range_numbers : NumberRange → List ℕ
range_numbers r = map (λ i. (r.first + i) % 2 ^ 32) (range_with_len 0 r.count)

-- and those of ranges, of which one is the last
abbrev pub numbers_in : List NumberRange → NumberRange → List ℕ
numbers_in done last = flat_map range_numbers done ++ range_numbers last
