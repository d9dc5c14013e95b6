-- The entries that are given ascend, so that none of them is left out of those that ascend.
use Rattle.std.proofs.Common.{◌≡◌, inl, inr, ℕ, zero, suc, ◌+◌, ◌^◌, ◌<◌, ◌≤◌, true, false, not, ◌&&◌, ◌||◌, nat_lt, nat_eq, List, [], ◌∷◌, ◌++◌, map, filter, refl, ap, arith, max, min, Option, None, eq-eqb, Some, sym, ◌∙◌}
use Rattle.std.specs.List.{flat_map, range_with_len}
use Rattle.std.proofs.lemmas.List.{append-nil, map-append}
use Rattle.std.proofs.lemmas.Bool.{cases_Bool, cases_lt, or_parts, not-false, lt-ltb, le-ltb, ne_eqb}
use Rattle.pd_kinds.specs.Graph.{is_outside, block_at}
use Rattle.pd_kinds.specs.Layout.{leaf_entries, node_entries_of}
use Rattle.pd_kinds.specs.Node.{Entry, entry_count, is_ascending, is_inner_node, key_at, value_at, child_at, node_bad, node_keys, node_tests}
use Rattle.pd_kinds.proofs.SoundLemmas.{none_broken, tests_after_one}
use Rattle.pd_laid.specs.Salvage.{salvaged_below, salvaged_entries, is_damaged, child_low, child_high, Visit, entries_of_visit, visits}
use Rattle.pd_laid.proofs.GatherLemmas.{visits_give}
use Rattle.pd_value.specs.declared.thin.Details.{Details}
use Rattle.pd_tree.specs.Cursor.{root_left, item_of}
use Rattle.pd_tree.specs.Search.{KeysAscend, AreFrom, lookup}
use Rattle.pd_tree.proofs.TreeLemmas.{keys_say}
use Rattle.pd_tree.specs.Stack.{IsNext}
use Rattle.pd_tree.proofs.SearchLemmas.{lookup_other, none_from}
use Rattle.pd_meaning_thin.specs.Runs.{details_of}
use Rattle.pd_salvage.specs.Range.{IsNextFrom, ascending_from, all_keys, items_of_visit, saved_below}
use Rattle.pd_salvage.specs.declared.cursor.SavedCursor.{SavedCursor}
use Rattle.pd_salvage.specs.declared.details.SavedDetails.{SavedDetails}
use Rattle.pd_salvage.specs.Cursor.{saved_left}
use Rattle.pd_salvage.specs.Details.{FindsSame, IsFound, KnowsHere, KnowsNothing, ahead_items, details_left}

-- keys ascend, from one number on and below another
abbrev pub AreAscending : ℕ → ℕ → List Entry → Type 0
AreAscending low high [] = Unit {0}
AreAscending low high (e ∷ es) = (low ≤ e.key) × (e.key < high) × AreAscending (e.key + 1) high es

from_less : (low less high : ℕ) (es : List Entry) → less ≤ low → AreAscending low high es → AreAscending less high es
from_less low less high [] below are = tt
from_less low less high (e ∷ es) below are = let first = are.0 in (omega arith, are.1, are.2)

-- two ranges after each other
joined : (a b c high : ℕ) (xs ys : List Entry) → a ≤ c → b ≤ c → b ≤ high → AreAscending a b xs → AreAscending c high ys → AreAscending a high (xs ++ ys)
joined a b c high [] ys before apart within first last = from_less c a high ys before last
joined a b c high (x ∷ xs) ys before apart within first last =
    let below = first.1 in
    (first.0, omega arith, joined (x.key + 1) b c high xs ys (omega arith) apart within first.2 last)

-- keys ascend in an undamaged node
pub order_holds : (size place : ℕ) (block : List ℕ) → is_damaged size place block ≡ false → KeysAscend size block
unfolding is_damaged node_bad node_tests
order_holds size place block sound =
    keys_say size block
    (not-false (is_ascending (node_keys size block))
    (tests_after_one _ _ (node_tests size place block) (none_broken (node_bad size place block) sound)).0)

module _ (size : ℕ) (block : List ℕ) (ordered : KeysAscend size block) where
  abbrev pub count : ℕ
  count = entry_count size block

  next_key : (i : ℕ) → i + 1 < count → key_at block i < key_at block (i + 1)
  unfolding KeysAscend
  next_key i within = ordered i (i + 1) (omega arith) within

  -- the entries of a leaf that are in a range, from one on
  abbrev pub entry : ℕ → Entry
  entry i = record { key = key_at block i; value = value_at size block i }

  abbrev pub kept : ℕ → ℕ → List Entry → List Entry
  kept low high es = filter (λ (e : Entry). not (nat_lt e.key low) && nat_lt e.key high) es

  pub leaf_from : (low high least i n : ℕ) → i + n ≡ count → (1 ≤ n → least ≤ key_at block i) → AreAscending (max least low) high (kept low high (map entry (range_with_len i n)))
  leaf_from low high least i zero whole from = tt
  leaf_from low high least i (suc n) whole from =
      let here = from (omega arith) in
      let later : 1 ≤ n → key_at block i + 1 ≤ key_at block (i + 1) = λ more. let next = next_key i (omega arith) in omega arith in
      let rest = leaf_from low high (key_at block i + 1) (i + 1) n (omega arith) later in
      elim (cases_lt (key_at block i) low) [
        | inl below ↦
            rw (lt-ltb (key_at block i) low below)
            (leaf_from low high least (i + 1) n (omega arith) (λ more. let next = next_key i (omega arith) in omega arith))
        | inr above ↦ elim (cases_lt (key_at block i) high) [
          | inl within ↦
              rw (le-ltb (key_at block i) low above, lt-ltb (key_at block i) high within)
              (omega arith, within, from_less (max (key_at block i + 1) low) (key_at block i + 1) high _ (omega arith) rest)
          | inr out ↦
              rw (le-ltb (key_at block i) low above, le-ltb (key_at block i) high out)
              (leaf_from low high least (i + 1) n (omega arith) (λ more. let next = next_key i (omega arith) in omega arith))
        ]
      ]

  -- what is given below the children of an inner node, from one on
  inner_from : (low high : ℕ) (f : ℕ → List Entry) → ((i : ℕ) → AreAscending (child_low block low i) (child_high size block high i) (f i))
      → (i n : ℕ) → i + n ≡ count → 1 ≤ n → AreAscending (max (key_at block i) low) high (flat_map f (range_with_len i n))
  inner_from low high f each i zero whole some = absurd (omega arith)
  inner_from low high f each i (suc zero) whole some =
      let last : nat_eq (i + 1) count ≡ true = eq-eqb (i + 1) count (omega arith) in
      joined (max (key_at block i) low) high (max (max (key_at block i) low) high) high (f i) [] (omega arith) (omega arith) (omega arith) (rw last at (each i)) tt
  inner_from low high f each i (suc (suc n)) whole some =
      let more : nat_eq (i + 1) count ≡ false = ne_eqb (i + 1) count (λ same. omega arith) in
      let next = next_key i (omega arith) in
      joined (max (key_at block i) low) (min (key_at block (i + 1)) high) (max (key_at block (i + 1)) low) high (f i) _
      (omega arith) (omega arith) (omega arith) (rw more at (each i)) (inner_from low high f each (i + 1) (suc n) (omega arith) (omega arith))

  -- below all of them
  inner_all : (low high : ℕ) (f : ℕ → List Entry) → ((i : ℕ) → AreAscending (child_low block low i) (child_high size block high i) (f i))
      → AreAscending low high (flat_map f (range_with_len 0 count))
  inner_all low high f each = elim (cases_lt 0 count) [
    | inl some ↦ from_less (max (key_at block 0) low) low high _ (omega arith) (inner_from low high f each 0 count (omega arith) (omega arith))
    | inr none ↦ let is : count ≡ 0 = omega arith in rw is tt
  ]

-- what is given ascends, and lies in the range
pub give_ascends : (size nr : ℕ) (image : List (List ℕ)) (j place low high : ℕ) → AreAscending low high (salvaged_below size nr image j place low high)
unfolding salvaged_below leaf_entries node_entries_of
give_ascends size nr image zero place low high = tt
give_ascends size nr image (suc j) place low high = elim (cases_Bool (is_outside nr place || is_damaged size place (block_at image place))) [
  | inl out ↦ rw out tt
  | inr sound ↦
      let ordered = order_holds size place (block_at image place) (or_parts (is_outside nr place) (is_damaged size place (block_at image place)) sound).1 in
      elim (cases_Bool (is_inner_node (block_at image place))) [
        | inl inner ↦ rw (sound, inner)
            (inner_all size (block_at image place) ordered low high _ (λ i.
            give_ascends size nr image j (child_at (block_at image place) i) (child_low (block_at image place) low i) (child_high size (block_at image place) high i)))
        | inr leaf ↦ rw (sound, leaf)
            (from_less (max 0 low) low high _ (omega arith)
            (leaf_from size (block_at image place) ordered low high 0 0 (entry_count size (block_at image place)) (omega arith) (λ some. omega arith)))
      ]
]

-- entries that ascend are all kept
pub all_ascend : {X : Type 0} (decoded : ℕ → X) (low high : ℕ) (es : List Entry) → AreAscending low high es
    → ascending_from low (map (item_of decoded) es) ≡ map (item_of decoded) es
unfolding ascending_from
all_ascend {X} decoded low high [] are = refl
all_ascend {X} decoded low high (e ∷ es) are =
    rw (le-ltb e.key low are.0) (ap (λ (xs : List (ℕ × X)). (e.key, decoded e.value) ∷ xs) (all_ascend decoded (e.key + 1) high es are.2))

-- entries whose keys ascend are kept from a lesser key on
pub ascending_less : {X : Type 0} (least : ℕ) (key : ℕ) (value : X) (items : List (ℕ × X)) → key < least
    → ascending_from least ((key, value) ∷ items) ≡ ascending_from least items
unfolding ascending_from
ascending_less {X} least key value items less = rw (lt-ltb key least less) refl

pub ascending_first : {X : Type 0} (least : ℕ) (key : ℕ) (value : X) (items : List (ℕ × X)) → least ≤ key
    → ascending_from least ((key, value) ∷ items) ≡ (key, value) ∷ ascending_from (key + 1) items
unfolding ascending_from
ascending_first {X} least key value items from = rw (le-ltb key least from) refl

pub ascending_none : {X : Type 0} (least : ℕ) → ascending_from {X = X} least [] ≡ []
unfolding ascending_from
ascending_none {X} least = refl

-- the entries of visits, decoded
items_joined : {X : Type 0} (size : ℕ) (decoded : ℕ → X) (image : List (List ℕ)) (vs : List Visit)
    → flat_map (items_of_visit size decoded image) vs ≡ map (item_of decoded) (flat_map (entries_of_visit size image) vs)
items_joined size decoded image [] = refl
items_joined size decoded image (v ∷ vs) =
    rw (map-append (item_of decoded) (entries_of_visit size image v) (flat_map (entries_of_visit size image) vs), items_joined size decoded image vs) refl

-- a cursor at its start, before a root that wasn't read
pub started : {X : Type 0} (size : ℕ) (decoded : ℕ → X) (nr : ℕ) (image : List (List ℕ)) (root : ℕ) (left : List (ℕ × X)) → left ≡ []
    → ascending_from 0 (saved_below size decoded nr image 64 all_keys root ++ left) ≡ map (item_of decoded) (salvaged_entries size nr image root)
unfolding saved_below salvaged_entries
started {X} size decoded nr image root left none =
    rw (
      none,
      append-nil (flat_map (items_of_visit size decoded image) (visits size nr image 64 root 0 (2 ^ 64))),
      items_joined size decoded image (visits size nr image 64 root 0 (2 ^ 64)),
      visits_give size nr image 64 root 0 (2 ^ 64),
    )
    (all_ascend decoded 0 (2 ^ 64) (salvaged_below size nr image 64 root 0 (2 ^ 64)) (give_ascends size nr image 64 root 0 (2 ^ 64)))

-- nothing is left below a root that was read
pub none_below : {X : Type 0} (below : ℕ → List X) (root : Option ℕ) → root ≡ None → root_left below root ≡ []
none_below below root none = rw none refl

-- nothing is left where nothing was left from the least key on
pub none_answer : {X : Type 0} (least same : ℕ) (before old root new : List (ℕ × X)) → same ≡ least → old ≡ before → root ≡ [] → IsNextFrom same None old new
    → IsNext None (ascending_from least before) (ascending_from same (root ++ new))
none_answer {X} least same before old root new is was none next = (rw (← is, ← was) next.0, rw (none, next.1) (ascending_none same))

-- What is found of the details of devices, asked by ascending id.

-- keys that ascend from a number on are from a lesser one on
ascending_keys : {X : Type 0} (least low : ℕ) (items : List (ℕ × X)) → low ≤ least → AreFrom low (ascending_from least items)
unfolding ascending_from
ascending_keys {X} least low [] below = tt
ascending_keys {X} least low (item ∷ items) below = elim (cases_lt item.0 least) [
  | inl less ↦ rw (lt-ltb item.0 least less) (ascending_keys least low items below)
  | inr from ↦ rw (le-ltb item.0 least from) (omega arith, ascending_keys (item.0 + 1) low items (omega arith))
]

-- keys below the least one aren't found
pub none_left : {X : Type 0} (key least : ℕ) (items : List (ℕ × X)) → key < least → lookup key (ascending_from least items) ≡ None
none_left {X} key least items less = none_from key least (ascending_from least items) (ascending_keys least least items (omega arith)) less

-- a key that was read
pub found_here : {X : Type 0} (id key : ℕ) (value : X) (left : List (ℕ × X)) → key ≡ id → IsFound id (Some value) ((key, value) ∷ left) ((key, value) ∷ left)
unfolding lookup
found_here {X} id key value left is =
    record { here = rw (eq-eqb key id is) refl; later = λ other after. refl }

-- a key past the wanted one
pub found_past : {X : Type 0} (id key least : ℕ) (value : X) (items : List (ℕ × X)) → id < key → least ≡ key + 1
    → IsFound {X = X} id None ((key, value) ∷ ascending_from least items) ((key, value) ∷ ascending_from least items)
found_past {X} id key least value items past is =
    let none = lookup_other id (key, value) (ascending_from least items) (λ equal. let so : key ≡ id = equal in omega arith) ∙ none_left id least items (omega arith) in
    record { here = sym none; later = λ other after. refl }

-- an entry with a lesser key is passed
pub finds_later : {X : Type 0} (id key : ℕ) (value : X) (left : List (ℕ × X)) → key < id → FindsSame id ((key, value) ∷ left) left
finds_later {X} id key value left less other after =
    sym (lookup_other other (key, value) left (λ equal. let so : key ≡ other = equal in omega arith))

-- the end
pub found_none : {X : Type 0} (id : ℕ) (start old new : List (ℕ × X)) → FindsSame id start old → (old ≡ []) × (new ≡ []) → IsFound {X = X} id None start new
unfolding lookup
found_none {X} id start old new same none =
    record { here = sym (ap (lookup id) none.0) ∙ same id (omega arith); later = λ key after. rw none.1 (sym (ap (lookup key) none.0) ∙ same key (omega arith)) }

pub joined_same : {X : Type 0} (id : ℕ) (start old new : List (ℕ × X)) → FindsSame id start old → FindsSame id old new → FindsSame id start new
joined_same {X} id start old new first last key after = last key after ∙ first key after

-- what is known is found
pub found_known : (id : ℕ) (known : Option Details) (image : List (List ℕ)) (start : List (ℕ × Details)) (old new : SavedDetails) → FindsSame id start (details_left image old) → KnowsHere id known old new
    → IsFound id known start (details_left image new)
found_known id known image start old new same knows =
    rw knows.same (record { here = (knows.found image).here ∙ same id (omega arith); later = λ key after. same key (omega arith) })

-- what the entry that was read last says
module _ (id key : ℕ) (details : Details) (self : SavedDetails) (read : self.ahead ≡ Some (key, details)) where
  pub knows_here : key ≡ id → KnowsHere id (Some details) self self
  knows_here is = record { same = refl; found = λ image. rw read (found_here id key details (saved_left 24 details_of image self.entries) is) }

  pub knows_past : id < key → KnowsHere id None self self
  knows_past past = record {
    same = refl;
    found = λ image. rw read (found_past id key self.entries.least details _ past (self.follows (key, details) read));
  }

  pub knows_nothing : (new : SavedDetails) → key < id → new.ahead ≡ None → new.entries ≡ self.entries → KnowsNothing id self new
  knows_nothing new less none same = record {
    none = none;
    same = same;
    finds = λ image. rw (read, none, same) (finds_later id key details (saved_left 24 details_of image self.entries) less);
  }

-- nothing is found where nothing is left to read
pub found_end : (id : ℕ) (image : List (List ℕ)) (start : List (ℕ × Details)) (old known : SavedDetails) (entries : SavedCursor Details)
    → FindsSame id start (details_left image old) → KnowsNothing id old known
    → IsNext {X = ℕ × Details} None (saved_left 24 details_of image known.entries) (saved_left 24 details_of image entries)
    → IsFound id None start (ahead_items known.ahead ++ saved_left 24 details_of image entries)
found_end id image start old known entries same nothing next =
    rw nothing.none
    (found_none id start (saved_left 24 details_of image known.entries) (saved_left 24 details_of image entries)
    (joined_same id start (details_left image old) (saved_left 24 details_of image known.entries) same (rw nothing.none at (nothing.finds image))) next)
