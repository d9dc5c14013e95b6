-- What is noted of a leaf.
use Rattle.std.proofs.Common.{◌≡◌, inl, inr, ℕ, zero, suc, ◌+◌, ◌^◌, ◌<◌, ◌≤◌, Bool, true, false, cond, not, ◌&&◌, ◌||◌, nat_eq, nat_lt, nat_le, List, [], ◌∷◌, ◌++◌, length, map, filter, refl, sym, ap, ◌∙◌, arith, min, max, eq-eqb}
use Rattle.std.specs.List.{range_with_len}
use Rattle.std.proofs.lemmas.Bool.{cases_Bool, cases_lt, lt-ltb, le-ltb, and_parts, or_parts, ne_eqb, eqb-true, not-true, ltb-false, leb-true, both_ways}
use Rattle.std.proofs.lemmas.List.FromFn.{length-map-range_with_len}
use Rattle.std.proofs.lemmas.List.{map-append}
use Rattle.std.proofs.lemmas.List.Elements.{filter-append}
use Rattle.std.proofs.lemmas.List.Sums.{count_by-le-length, length-filter}
use Rattle.pd_kinds.specs.Layout.{leaf_entries, node_entries_of}
use Rattle.pd_kinds.specs.Meaning.{Mapping}
use Rattle.pd_kinds.specs.Node.{Entry, entry_count, is_inner_node, key_at, value_at}
use Rattle.pd_kinds.specs.ThinFormat.{mapped_block}
use Rattle.pd_grammar.specs.Lawful.{AreMappings}
use Rattle.pd_laid.specs.Salvage.{is_damaged}
use Rattle.pd_value.specs.declared.thin.BlockTime.{BlockTime}
use Rattle.pd_meaning_thin.specs.declared.joined.Run.{Run}
use Rattle.pd_meaning_thin.specs.Runs.{block_time_of, mapping_of}
use Rattle.pd_salvage.specs.declared.way.Range.{Range}
use Rattle.pd_salvage.specs.Range.{all_keys, is_in_range}
use Rattle.pd_salvage.proofs.AscendLemmas.{AreAscending, leaf_from, order_holds}
use Rattle.pd_salvage.specs.Gather.{HasRuns, mappings_of_runs}
use Rattle.pd_salvage_shapes.specs.declared.note.LeafGathering.{LeafGathering}
use Rattle.pd_salvage_shapes.specs.declared.note.LeafNote.{LeafNote}
use Rattle.pd_salvage_shapes.specs.Note.{IsGathered, IsNote, Notes, is_all_of, end_key, first_key, in_keys, mapping_of_entry, noted, saved_at, saved_in}

-- what is saved of entries and of more of them
pub saved_more : (blocks : ℕ) (range : Range) (xs ys : List Entry) → saved_in blocks range (xs ++ ys) ≡ saved_in blocks range xs ++ saved_in blocks range ys
saved_more blocks range xs ys =
    let in_range = λ (e : Entry). is_in_range range e.key in
    let in_pool = λ (e : Entry). nat_lt (mapped_block e.value) blocks in
    ap (λ (es : List Entry). map mapping_of_entry (filter in_pool es)) (filter-append in_range xs ys)
    ∙ (ap (map mapping_of_entry) (filter-append in_pool (filter in_range xs) (filter in_range ys))
    ∙ map-append mapping_of_entry (filter in_pool (filter in_range xs)) (filter in_pool (filter in_range ys)))

-- the least key and the end of the keys, with one mapping more
pub first_more : (ms : List Mapping) (m : Mapping) → first_key (ms ++ m ∷ []) ≡ cond (nat_eq (length ms) 0) m.virtual_block (first_key ms)
first_more [] m = refl
first_more (x ∷ ms) m =
    let none : nat_eq (length (x ∷ ms)) 0 ≡ false = ne_eqb (length (x ∷ ms)) 0 (λ same. omega arith) in
    rw none refl

pub end_more : (ms : List Mapping) (m : Mapping) → end_key (ms ++ m ∷ []) ≡ m.virtual_block + 1
end_more [] m = refl
end_more (x ∷ []) m = refl
end_more (x ∷ y ∷ ms) m = end_more (y ∷ ms) m

-- entries whose keys ascend are lawful mappings
pub mappings_are : (blocks least low high : ℕ) (es : List Entry) → least ≤ low → high ≤ 2 ^ 64 → AreAscending low high es
    → AreMappings blocks least (map mapping_of_entry (filter (λ (e : Entry). nat_lt (mapped_block e.value) blocks) es))
mappings_are blocks least low high [] from fits are = tt
mappings_are blocks least low high (e ∷ es) from fits are =
    let first = are.0 in
    let last = are.1 in
    elim (cases_lt (mapped_block e.value) blocks) [
      | inl within ↦ rw (lt-ltb (mapped_block e.value) blocks within)
          (record { above = omega arith; virtual_fits = omega arith; within = within; time_fits = omega arith }, mappings_are blocks (e.key + 1) (e.key + 1) high es (omega arith) fits are.2)
      | inr out ↦ rw (le-ltb (mapped_block e.value) blocks out) (mappings_are blocks least (e.key + 1) high es (omega arith) fits are.2)
    ]

-- what is in a range is in one that ends with the keys, where the keys fit
abbrev pub entry_at : List ℕ → ℕ → Entry
entry_at block i = record { key = key_at block i; value = value_at 8 block i }

abbrev ending : Range → Range
ending range = record { low = range.low; high = min range.high (2 ^ 64) }

ending_same : (range : Range) (block : List ℕ) (a n : ℕ) → ((i : ℕ) → a ≤ i → i < a + n → key_at block i < 2 ^ 64)
    → filter (λ (e : Entry). is_in_range range e.key) (map (entry_at block) (range_with_len a n)) ≡ filter (λ (e : Entry). is_in_range (ending range) e.key) (map (entry_at block) (range_with_len a n))
ending_same range block a zero fit = refl
ending_same range block a (suc n) fit =
    let here = fit a (omega arith) (omega arith) in
    let rest = ending_same range block (a + 1) n (λ i from below. fit i (omega arith) (omega arith)) in
    let same : is_in_range range (key_at block a) ≡ is_in_range (ending range) (key_at block a) =
    elim (cases_lt (key_at block a) range.high) [
      | inl below ↦
          let least : key_at block a < min range.high (2 ^ 64) = omega arith in
          rw (lt-ltb (key_at block a) range.high below, lt-ltb (key_at block a) (min range.high (2 ^ 64)) least) refl
      | inr above ↦
          let most : min range.high (2 ^ 64) ≤ key_at block a = omega arith in
          rw (le-ltb (key_at block a) range.high above, le-ltb (key_at block a) (min range.high (2 ^ 64)) most) refl
    ] in
    rw (same, rest) refl

pub saved_lawful : (blocks place : ℕ) (block : List ℕ) (range : Range) → is_damaged 8 place block ≡ false → ((i : ℕ) → i < entry_count 8 block → key_at block i < 2 ^ 64)
    → AreMappings blocks 0 (saved_in blocks range (map (entry_at block) (range_with_len 0 (entry_count 8 block))))
saved_lawful blocks place block range sound fit =
    rw (ending_same range block 0 (entry_count 8 block) (λ i from below. fit i (omega arith)))
    (mappings_are blocks 0 (max 0 range.low) (min range.high (2 ^ 64)) _ (omega arith) (omega arith)
    (leaf_from 8 block (order_holds 8 place block sound) range.low (min range.high (2 ^ 64)) 0 0 (entry_count 8 block) (omega arith) (λ some. omega arith)))

-- the entries of a leaf
pub leaf_is : (block : List ℕ) → is_inner_node block ≡ false → leaf_entries 8 block ≡ map (entry_at block) (range_with_len 0 (entry_count 8 block))
unfolding leaf_entries node_entries_of
leaf_is block leaf = rw leaf refl

-- keys that ascend lie between the first one and the end
in_between : (blocks least : ℕ) (m : Mapping) (ms : List Mapping) → AreMappings blocks least (m ∷ ms) → m.virtual_block < end_key (m ∷ ms)
in_between blocks least m [] are = omega arith
in_between blocks least m (n ∷ ms) are =
    let next = are.1.0.above in
    let rest = in_between blocks (m.virtual_block + 1) n ms are.1 in
    omega arith

all_in : (range : Range) (blocks least : ℕ) (ms : List Mapping) → AreMappings blocks least ms → range.low ≤ least → end_key ms ≤ range.high → in_keys range ms ≡ ms
all_in range blocks least [] are from to = refl
all_in range blocks least (m ∷ []) are from to =
    let above = are.0.above in
    rw (le-ltb m.virtual_block range.low (omega arith), lt-ltb m.virtual_block range.high (omega arith)) refl
all_in range blocks least (m ∷ n ∷ ms) are from to =
    let above = are.0.above in
    let below = in_between blocks least m (n ∷ ms) are in
    let rest = all_in range blocks (m.virtual_block + 1) (n ∷ ms) are.1 (omega arith) to in
    rw (le-ltb m.virtual_block range.low (omega arith), lt-ltb m.virtual_block range.high (omega arith)) (ap (λ (xs : List Mapping). m ∷ xs) rest)

from_first : (blocks least : ℕ) (ms : List Mapping) → AreMappings blocks least ms → AreMappings blocks (first_key ms) ms
from_first blocks least [] are = tt
from_first blocks least (m ∷ ms) are =
    (record { above = omega arith; virtual_fits = are.0.virtual_fits; within = are.0.within; time_fits = are.0.time_fits }, are.1)

pub lies_inside : (range : Range) (blocks : ℕ) (ms : List Mapping) → AreMappings blocks 0 ms → range.low ≤ first_key ms → end_key ms ≤ range.high → in_keys range ms ≡ ms
lies_inside range blocks ms are from to = all_in range blocks (first_key ms) ms (from_first blocks 0 ms are) from to

pub few_in : (range : Range) (ms : List Mapping) → length (in_keys range ms) ≤ length ms
few_in range ms =
    let few = count_by-le-length (λ (m : Mapping). is_in_range range m.virtual_block) ms in
    let number = length-filter (λ (m : Mapping). is_in_range range m.virtual_block) ms in
    omega arith

-- the first one lies before the range, or the last one behind it
pub first_out : (range : Range) (ms : List Mapping) → 1 ≤ length ms → first_key ms < range.low → length (in_keys range ms) < length ms
first_out range [] some out = absurd (omega arith)
first_out range (m ∷ ms) some out = let few = few_in range ms in rw (lt-ltb m.virtual_block range.low out) (omega arith)

one_out : (range : Range) (m : Mapping) (ms : List Mapping) → length (in_keys range ms) < length ms → length (in_keys range (m ∷ ms)) < length (m ∷ ms)
one_out range m ms less = elim (cases_Bool (is_in_range range m.virtual_block)) [
  | inl kept ↦ rw kept (omega arith)
  | inr left ↦ rw left (omega arith)
]

pub last_out : (range : Range) (ms : List Mapping) → 1 ≤ length ms → range.high < end_key ms → length (in_keys range ms) < length ms
last_out range [] some out = absurd (omega arith)
last_out range (m ∷ []) some out = elim (cases_lt m.virtual_block range.low) [
  | inl below ↦ rw (lt-ltb m.virtual_block range.low below) (omega arith)
  | inr from ↦ rw (le-ltb m.virtual_block range.low from, le-ltb m.virtual_block range.high (omega arith)) (omega arith)
]
last_out range (m ∷ n ∷ ms) some out = one_out range m (n ∷ ms) (last_out range (n ∷ ms) (omega arith) out)

-- whether a note lies in a range
module _ (blocks : ℕ) (note : LeafNote) (range : Range) (is : IsNote blocks note) where
  nothing_noted : note.entries ≡ 0 → noted note ≡ []
  nothing_noted none = no_items (noted note) (let counted = is.counted in omega arith)
    where
      no_items : (ms : List Mapping) → length ms ≡ 0 → ms ≡ []
      no_items [] none = refl
      no_items (m ∷ ms) none = absurd (omega arith)

  pub note_inside : (nat_eq note.entries 0 || (not (nat_lt note.first range.low) && not (nat_lt range.high note.end))) ≡ true → in_keys range (noted note) ≡ noted note
  note_inside lies = elim (cases_Bool (nat_eq note.entries 0)) [
    | inl none ↦ rw (nothing_noted (eqb-true note.entries 0 none)) refl
    | inr some ↦
        let parts = and_parts (not (nat_lt note.first range.low)) (not (nat_lt range.high note.end)) (rw some at lies) in
        let from = ltb-false note.first range.low (not-true (nat_lt note.first range.low) parts.0) in
        let to = ltb-false range.high note.end (not-true (nat_lt range.high note.end) parts.1) in
        let first = is.first in
        let end = is.end in
        lies_inside range blocks (noted note) is.lawful (omega arith) (omega arith)
  ]

  pub note_outside : (nat_eq note.entries 0 || (not (nat_lt note.first range.low) && not (nat_lt range.high note.end))) ≡ false → length (in_keys range (noted note)) < length (noted note)
  note_outside lies =
      let some = (or_parts (nat_eq note.entries 0) _ lies).0 in
      let counted = is.counted in
      let first = is.first in
      let end = is.end in
      let more : 1 ≤ length (noted note) = some_left (noted note) (λ none. both_ways (nat_eq note.entries 0) some (eq-eqb note.entries 0 (omega arith))) in
      elim (cases_lt note.first range.low) [
        | inl before ↦ first_out range (noted note) more (omega arith)
        | inr from ↦ elim (cases_lt range.high note.end) [
          | inl behind ↦ last_out range (noted note) more (omega arith)
          | inr to ↦ absurd (both_ways _ lies (rw (some, le-ltb note.first range.low from, le-ltb range.high note.end to) refl))
        ]
      ]
    where
      some_left : (ms : List Mapping) → (length ms ≡ 0 → ⊥) → 1 ≤ length ms
      some_left [] none = absurd (none refl)
      some_left (m ∷ ms) none = omega arith

-- what is saved of one entry
pub saved_one : (blocks : ℕ) (range : Range) (key value : ℕ) (m : BlockTime) → m ≡ block_time_of value → (is_in_range range key && nat_lt m.block blocks) ≡ true
    → saved_in blocks range (record { key = key; value = value } ∷ []) ≡ mapping_of (key, m) ∷ []
saved_one blocks range key value m is kept =
    let parts = and_parts (is_in_range range key) (nat_lt m.block blocks) kept in
    let within : nat_lt (mapped_block value) blocks ≡ true = rw is at parts.1 in
    rw (parts.0, within, is) refl

pub saved_none : (blocks : ℕ) (range : Range) (key value : ℕ) (m : BlockTime) → m ≡ block_time_of value → (is_in_range range key && nat_lt m.block blocks) ≡ false
    → saved_in blocks range (record { key = key; value = value } ∷ []) ≡ []
saved_none blocks range key value m is left = elim (cases_Bool (is_in_range range key)) [
  | inl inside ↦
      let out : nat_lt (mapped_block value) blocks ≡ false = rw (inside, is) at left in
      rw (inside, out) refl
  | inr outside ↦ rw outside refl
]

-- the note of what was gathered
pub none_all : (block : List ℕ) → is_all_of block [] ≡ false
none_all block = none_of (length (leaf_entries 8 block))
  where
    none_of : (n : ℕ) → (nat_eq 0 n && (nat_le 1 n && nat_le n 252)) ≡ false
    none_of zero = refl
    none_of (suc n) = rw (ne_eqb 0 (suc n) (λ same. omega arith)) refl

pub inner_none : (blocks place : ℕ) (block : List ℕ) (range : Range) → is_inner_node block ≡ true → saved_at blocks place block range ≡ []
unfolding leaf_entries
inner_none blocks place block range inner = rw inner (both (is_damaged 8 place block))
  where
    both : (damaged : Bool) → cond damaged (let none : List Mapping = [] in none) [] ≡ []
    both true = refl
    both false = refl

pub sound_saved : (blocks place : ℕ) (block : List ℕ) (range : Range) → is_damaged 8 place block ≡ false → is_inner_node block ≡ false
    → saved_at blocks place block range ≡ saved_in blocks range (map (entry_at block) (range_with_len 0 (entry_count 8 block)))
sound_saved blocks place block range sound leaf = rw (sound, leaf_is block leaf) refl

pub leaf_number : (block : List ℕ) → is_inner_node block ≡ false → length (leaf_entries 8 block) ≡ entry_count 8 block
leaf_number block leaf = ap length (leaf_is block leaf) ∙ length-map-range_with_len (entry_at block) 0 (entry_count 8 block)

module _ (runs : List Run) (gathering : LeafGathering) (ms : List Mapping) (before : List Run) (gathered : IsGathered before gathering ms) (has : HasRuns [] runs ms) where
  pub gathered_mappings : mappings_of_runs runs ≡ ms
  gathered_mappings = rw has.runs_are (sym has.written)

  pub gathered_note : (blocks : ℕ) (note : LeafNote) → note.runs ≡ runs → note.entries ≡ gathering.mapped → note.first ≡ gathering.first → note.end ≡ gathering.end
      → (note.full ≡ true → (1 ≤ note.entries) × (note.entries ≤ 252)) → AreMappings blocks 0 ms → IsNote blocks note
  gathered_note blocks note is entries first end sized lawful =
      let mappings : noted note ≡ ms = rw is gathered_mappings in
      record {
        lawful = rw mappings lawful;
        joined = rw (mappings, is, has.runs_are) has.joined;
        counted = entries ∙ (gathered.mapped ∙ sym (ap length mappings));
        first = first ∙ (gathered.first ∙ sym (ap first_key mappings));
        end = end ∙ (gathered.end ∙ sym (ap end_key mappings));
        sized = sized;
      }

pub sized_is : (mapped count : ℕ) → (nat_eq mapped count && (nat_le 1 count && nat_le count 252)) ≡ true → (1 ≤ mapped) × (mapped ≤ 252)
sized_is mapped count all =
    let parts = and_parts (nat_eq mapped count) (nat_le 1 count && nat_le count 252) all in
    let sizes = and_parts (nat_le 1 count) (nat_le count 252) parts.1 in
    let same = eqb-true mapped count parts.0 in
    let some = leb-true 1 count sizes.0 in
    let few = leb-true count 252 sizes.1 in
    (omega arith, omega arith)

-- what is saved in a range is what is saved of all keys, in the range
module _ (blocks : ℕ) (range : Range) (block : List ℕ) where
  any_key : (key : ℕ) → key < 2 ^ 64 → is_in_range all_keys key ≡ true
  any_key key fits = rw (le-ltb key 0 (omega arith), lt-ltb key (2 ^ 64) fits) refl

  pub saved_keys : (a n : ℕ) → ((i : ℕ) → a ≤ i → i < a + n → key_at block i < 2 ^ 64)
      → saved_in blocks range (map (entry_at block) (range_with_len a n)) ≡ in_keys range (saved_in blocks all_keys (map (entry_at block) (range_with_len a n)))
  saved_keys a zero fit = refl
  saved_keys a (suc n) fit =
      let rest = saved_keys (a + 1) n (λ i from below. fit i (omega arith) (omega arith)) in
      let any = any_key (key_at block a) (fit a (omega arith) (omega arith)) in
      elim (cases_Bool (is_in_range range (key_at block a))) [
        | inl inside ↦ elim (cases_Bool (nat_lt (mapped_block (value_at 8 block a)) blocks)) [
          | inl within ↦ rw (inside, any, within, inside) (ap (λ (ms : List Mapping). mapping_of_entry (entry_at block a) ∷ ms) rest)
          | inr out ↦ rw (inside, any, out) rest
        ]
        | inr outside ↦ elim (cases_Bool (nat_lt (mapped_block (value_at 8 block a)) blocks)) [
          | inl within ↦ rw (outside, any, within, outside) rest
          | inr out ↦ rw (outside, any, out) rest
        ]
      ]

  pub saved_inside : (es : List Entry) → in_keys range (saved_in blocks range es) ≡ saved_in blocks range es
  saved_inside [] = refl
  saved_inside (e ∷ es) =
      let rest = saved_inside es in
      elim (cases_Bool (is_in_range range e.key)) [
        | inl inside ↦ elim (cases_Bool (nat_lt (mapped_block e.value) blocks)) [
          | inl within ↦ rw (inside, within, inside) (ap (λ (ms : List Mapping). mapping_of_entry e ∷ ms) rest)
          | inr out ↦ rw (inside, out) rest
        ]
        | inr outside ↦ rw outside rest
      ]

  pub few_saved : (es : List Entry) → length (saved_in blocks range es) ≤ length es
  few_saved [] = omega arith
  few_saved (e ∷ es) =
      let rest = few_saved es in
      elim (cases_Bool (is_in_range range e.key)) [
        | inl inside ↦ elim (cases_Bool (nat_lt (mapped_block e.value) blocks)) [
          | inl within ↦ rw (inside, within) (omega arith)
          | inr out ↦ rw (inside, out) (omega arith)
        ]
        | inr outside ↦ rw outside (omega arith)
      ]

pub part_inside : (blocks place : ℕ) (block : List ℕ) (range : Range) (note : LeafNote) → Notes blocks place block range note → in_keys range (noted note) ≡ noted note
part_inside blocks place block range note is = elim (cases_Bool (is_damaged 8 place block)) [
  | inl damaged ↦ let none : noted note ≡ [] = is.mappings ∙ rw damaged refl in rw none refl
  | inr sound ↦ let some : noted note ≡ saved_in blocks range (leaf_entries 8 block) = is.mappings ∙ rw sound refl in rw some (saved_inside blocks range block (leaf_entries 8 block))
]
