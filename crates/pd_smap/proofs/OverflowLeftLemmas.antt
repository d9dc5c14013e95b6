-- What entries ahead tell of a block's count.
use Rattle.std.proofs.Common.{◌≡◌, ℕ, ◌+◌, ◌<◌, ◌≤◌, true, false, nat_lt, cond, List, [], ◌∷◌, Option, Some, None, ap, sym, ◌∙◌, refl, subst, arith, zero, suc, eqb, ◌++◌, map, append-nil, inl, inr, ◌%◌, ◌/◌, ◌^◌}
use Rattle.std.specs.Option.{option_map, option_and_then}
use Rattle.std.proofs.lemmas.Bool.{eq-eqb, ne_eqb, ltb-true, ltb-false, cases_Bool}
use Rattle.std.specs.List.{flat_map, range_with_len}
use Rattle.pd_kinds.specs.Node.{entry_count, is_inner_node, key_at, value_at, child_at, Entry}
use Rattle.pd_kinds.specs.Graph.{block_at}
use Rattle.pd_kinds.specs.Trees.{value_of_key, count_of_bits, keys_of, stored_in, stored_data_in}
use Rattle.pd_kinds.specs.Bitmap.{two_bits_of}
use Rattle.pd_value.specs.declared.space_map.Count.{Count}
use Rattle.pd_value.specs.declared.space_map.IndexEntry.{IndexEntry}
use Rattle.pd_tree.specs.Search.{AreFrom, lookup, AreBelow, IsSearchable, KeysAscend, items_within}
use Rattle.pd_tree.specs.Stack.{IsNext}
use Rattle.pd_tree.specs.Below.{items_below}
use Rattle.pd_tree.proofs.SearchLemmas.{inner_is, leaf_is}
use Rattle.pd_tree.specs.Cursor.{item_of}
use Rattle.pd_smap.specs.Steps.{IsAhead, found, KeysRise}
use Rattle.pd_smap.specs.Overflow.{entries_ahead, is_entry_behind, IsOverflow, count_entry, count_from, overflow_of, bitmap_entry, index_from, index_of}

-- what is enough from a block on is enough from a later one on
pub ahead_later : (a b : ℕ) (over : ℕ → Option ℕ) (items : List (ℕ × Count)) → a ≤ b → IsAhead a over items → IsAhead b over items
ahead_later a b over items later ahead = record { rise = ahead.rise; counts = λ q past. ahead.counts q (omega arith) }

-- entries of later blocks have nothing for a block
none_found : (b low : ℕ) (items : List (ℕ × Count)) → AreFrom low items → b < low → lookup b items ≡ None
unfolding lookup
none_found b low [] from below = refl
none_found b low (item ∷ items) from below =
    ap (λ t. cond t (Some item.1) (lookup b items)) (ne_eqb item.0 b (λ same. omega (arith, from.0, same))) ∙ none_found b low items from.1 below

-- the first entry, at its block and at another one
found_first : (b : ℕ) (item : ℕ × Count) (items : List (ℕ × Count)) → item.0 ≡ b → found b (item ∷ items) ≡ Some item.1.0
unfolding lookup
found_first b item items same = ap (λ t. option_map (λ (c : Count). c.0) (cond t (Some item.1) (lookup b items))) (eq-eqb item.0 b same)

found_behind : (b : ℕ) (item : ℕ × Count) (items : List (ℕ × Count)) → (item.0 ≡ b → ⊥) → found b (item ∷ items) ≡ found b items
unfolding lookup
found_behind b item items other = ap (λ t. option_map (λ (c : Count). c.0) (cond t (Some item.1) (lookup b items))) (ne_eqb item.0 b other)

-- the count of a block that the first entry isn't behind of
pub count_first : (b key : ℕ) (count : Count) (over : ℕ → Option ℕ) (items : List (ℕ × Count)) → IsAhead b over ((key, count) ∷ items)
    → key ≡ b → Some count.0 ≡ over b
count_first b key count over items ahead same = sym (found_first b (key, count) items same) ∙ ahead.counts b (omega arith)

pub count_missing : (b key : ℕ) (count : Count) (over : ℕ → Option ℕ) (items : List (ℕ × Count)) → IsAhead b over ((key, count) ∷ items)
    → nat_lt key b ≡ false → (key ≡ b → ⊥) → None ≡ over b
count_missing b key count over items ahead within other =
    sym (found_behind b (key, count) items other
    ∙ ap (option_map (λ (c : Count). c.0)) (none_found b (key + 1) items ahead.rise.0 (omega (arith, ltb-false key b within, other)))) ∙ ahead.counts b (omega arith)

pub count_past : (b : ℕ) (over : ℕ → Option ℕ) → IsAhead b over [] → None ≡ over b
unfolding lookup
count_past b over ahead = ahead.counts b (omega arith)

-- the first entry is taken away
ahead_rest : (b : ℕ) (over : ℕ → Option ℕ) (item : ℕ × Count) (items : List (ℕ × Count)) → item.0 < b → IsAhead b over (item ∷ items) → IsAhead b over items
ahead_rest b over item items behind ahead = record {
  rise = ahead.rise.1;
  counts = λ q past. sym (found_behind q item items (λ same. omega (arith, same))) ∙ ahead.counts q past;
}

-- and the next one takes its place
next_ahead : (b : ℕ) (over : ℕ → Option ℕ) (entry : Option (ℕ × Count)) (old new : List (ℕ × Count)) → IsNext entry old new → IsAhead b over old
    → IsAhead b over (entries_ahead entry new)
next_ahead b over None old new next ahead = subst (IsAhead b over) next.0 ahead
next_ahead b over (Some entry) old new next ahead = subst (IsAhead b over) next ahead

pub pass_ahead : (b : ℕ) (over : ℕ → Option ℕ) (entry next : Option (ℕ × Count)) (old new : List (ℕ × Count)) → is_entry_behind b entry ≡ true
    → IsNext next old new → IsAhead b over (entries_ahead entry old) → IsAhead b over (entries_ahead next new)
pass_ahead b over None next old new behind moves ahead = absurd (cc)
pass_ahead b over (Some entry) next old new behind moves ahead =
    next_ahead b over next old new moves (ahead_rest b over entry old (ltb-true entry.0 b behind) ahead)

-- In an overflow tree that can be searched the keys of the entries rise.

-- keys from a number on are from a lower one on
from_lower : (low high : ℕ) (xs : List (ℕ × Count)) → low ≤ high → AreFrom high xs → AreFrom low xs
from_lower low high [] order from = tt
from_lower low high (x ∷ xs) order from = (omega (arith, from.0), from_lower low high xs order from.1)

from_append : (low : ℕ) (xs ys : List (ℕ × Count)) → AreFrom low xs → AreFrom low ys → AreFrom low (xs ++ ys)
from_append low [] ys first next = next
from_append low (x ∷ xs) ys first next = (first.0, from_append low xs ys first.1 next)

-- lists that follow each other
rise_append : (middle : ℕ) (xs ys : List (ℕ × Count)) → KeysRise xs → KeysRise ys → AreBelow middle xs → AreFrom middle ys → KeysRise (xs ++ ys)
rise_append middle [] ys first next below from = next
rise_append middle (x ∷ xs) ys first next below from =
    (from_append (x.0 + 1) xs ys first.0 (from_lower (x.0 + 1) middle ys (omega (arith, below.0)) from), rise_append middle xs ys first.1 next below.1 from)

-- a row of lists, each in the range of its key
pub record IsRow (f : ℕ → List (ℕ × Count)) (key : ℕ → ℕ) (a n : ℕ) : Type 0 where
  pub rise : (i : ℕ) → a ≤ i → i < a + n → KeysRise (f i)
  pub from : (i : ℕ) → a ≤ i → i < a + n → AreFrom (key i) (f i)
  pub below : (i : ℕ) → a ≤ i → i + 1 < a + n → AreBelow (key (i + 1)) (f i)
  pub ascend : (i : ℕ) → a ≤ i → i + 1 < a + n → key i < key (i + 1)

row_rest : (f : ℕ → List (ℕ × Count)) (key : ℕ → ℕ) (a n : ℕ) → IsRow f key a (suc n) → IsRow f key (a + 1) n
row_rest f key a n row = record {
  rise = λ i from within. row.rise i (omega arith) (omega arith);
  from = λ i from within. row.from i (omega arith) (omega arith);
  below = λ i from within. row.below i (omega arith) (omega arith);
  ascend = λ i from within. row.ascend i (omega arith) (omega arith);
}

row_rises : (f : ℕ → List (ℕ × Count)) (key : ℕ → ℕ) (n a : ℕ) → IsRow f key a n
    → KeysRise (flat_map f (range_with_len a n)) × AreFrom (key a) (flat_map f (range_with_len a n))
row_rises f key zero a row = (tt, tt)
row_rises f key (suc zero) a row =
    (subst KeysRise (sym (append-nil (f a))) (row.rise a (omega arith) (omega arith)), subst (AreFrom (key a)) (sym (append-nil (f a))) (row.from a (omega arith) (omega arith)))
row_rises f key (suc (suc n)) a row =
    let rest = row_rises f key (suc n) (a + 1) (row_rest f key a (suc n) row) in (
      rise_append (key (a + 1)) (f a) (flat_map f (range_with_len (a + 1) (suc n))) (row.rise a (omega arith) (omega arith)) rest.0 (row.below a (omega arith) (omega arith)) rest.1,
      from_append (key a) (f a) (flat_map f (range_with_len (a + 1) (suc n))) (row.from a (omega arith) (omega arith))
          (from_lower (key a) (key (a + 1)) (flat_map f (range_with_len (a + 1) (suc n))) (let less = row.ascend a (omega arith) (omega arith) in omega arith) rest.1),
    )

-- the entries below a node
within_rises : (image : List (List ℕ)) (j b : ℕ) → IsSearchable 4 count_from image j b → KeysRise (items_within 4 count_from image j b)
unfolding IsSearchable items_within KeysAscend
within_rises image zero b searchable = tt
within_rises image (suc j) b searchable =
    elim (cases_Bool (is_inner_node (block_at image b))) [
      | inl inner ↦
          subst KeysRise (sym (inner_is 4 count_from image j b inner))
          (row_rises (λ i. items_within 4 count_from image j (child_at (block_at image b) i)) (key_at (block_at image b)) (entry_count 4 (block_at image b)) 0 (record {
            rise = λ i from within. within_rises image j (child_at (block_at image b) i) (searchable.1 i inner (omega arith)).2;
            from = λ i from within. (searchable.1 i inner (omega arith)).0;
            below = λ i from within. (searchable.1 i inner (omega arith)).1 (omega arith);
            ascend = λ i from within. searchable.0 i (i + 1) (omega arith) (omega arith);
          })).0
      | inr leaf ↦
          subst KeysRise (sym (leaf_is 4 count_from image j b leaf))
          (row_rises (λ i. (key_at (block_at image b) i, count_from (value_at 4 (block_at image b) i)) ∷ []) (key_at (block_at image b)) (entry_count 4 (block_at image b)) 0 (record {
            rise = λ i from within. (tt, tt);
            from = λ i from within. (omega arith, tt);
            below = λ i from within. (searchable.0 i (i + 1) (omega arith) (omega arith), tt);
            ascend = λ i from within. searchable.0 i (i + 1) (omega arith) (omega arith);
          })).0
    ]

-- a count among entries as they are stored
pub found_is : (b : ℕ) (items : List (ℕ × Count)) → found b items ≡ value_of_key (map count_entry items) b
unfolding value_of_key lookup
found_is b [] = refl
found_is b (item ∷ items) =
    elim (cases_Bool (eqb item.0 b)) [
      | inl same ↦ rw same refl
      | inr other ↦ rw other (found_is b items)
    ]

-- before the first block all entries are ahead
pub all_ahead : (image : List (List ℕ)) (root : ℕ) → IsOverflow image root → IsAhead 0 (value_of_key (overflow_of image root)) (items_below 4 count_from image 63 root)
unfolding items_within overflow_of
all_ahead image root searchable = record {
  rise = within_rises image 64 root searchable;
  counts = λ b from. found_is b (items_below 4 count_from image 63 root);
}

-- a count in the overflow tree
pub found_in : (image : List (List ℕ)) (root b : ℕ) → found b (items_below 4 count_from image 63 root) ≡ value_of_key (overflow_of image root) b
unfolding overflow_of
found_in image root b = found_is b (items_below 4 count_from image 63 root)

-- The entries of a tree as they are stored, and as they are read.

-- counts
counts_same : (entries : List Entry) → map count_entry (map (item_of count_from) entries) ≡ entries
counts_same [] = refl
counts_same (entry ∷ entries) = ap (λ (rest : List Entry). entry ∷ rest) (counts_same entries)

pub overflow_entries : (image : List (List ℕ)) (b : ℕ) (entries : List Entry) → items_below 4 count_from image 63 b ≡ map (item_of count_from) entries → overflow_of image b ≡ entries
unfolding overflow_of
overflow_entries image b entries is = ap (λ (items : List (ℕ × Count)). map count_entry items) is ∙ counts_same entries

-- keys
keys_same : (entries : List Entry) → keys_of (map bitmap_entry (map (item_of index_from) entries)) ≡ keys_of entries
keys_same [] = refl
keys_same (entry ∷ entries) = ap (λ (rest : List ℕ). entry.key ∷ rest) (keys_same entries)

pub index_keys : (image : List (List ℕ)) (b : ℕ) (entries : List Entry) → items_below 16 index_from image 63 b ≡ map (item_of index_from) entries → keys_of (index_of image b) ≡ keys_of entries
unfolding index_of
index_keys image b entries is = ap (λ (items : List (ℕ × IndexEntry)). keys_of (map bitmap_entry items)) is ∙ keys_same entries

-- places of bitmaps, each by its first eight bytes
twice : (n : ℕ) → n % 2 ^ 64 % 2 ^ 64 ≡ n % 2 ^ 64
twice n = omega arith

places_same : (entries : List Entry) (k : ℕ)
    → option_map (λ (v : ℕ). v % 2 ^ 64) (value_of_key (map bitmap_entry (map (item_of index_from) entries)) k) ≡ option_map (λ (v : ℕ). v % 2 ^ 64) (value_of_key entries k)
unfolding value_of_key
places_same [] k = refl
places_same (entry ∷ entries) k =
    elim (cases_Bool (eqb entry.key k)) [
      | inl same ↦ rw same (ap (λ (n : ℕ). Some n) (twice entry.value))
      | inr other ↦ rw other (places_same entries k)
    ]

pub index_stored : (image : List (List ℕ)) (b d : ℕ) (entries overflow : List Entry) → items_below 16 index_from image 63 b ≡ map (item_of index_from) entries
    → stored_data_in image (index_of image b) overflow d ≡ stored_data_in image entries overflow d
unfolding index_of stored_data_in stored_in
index_stored image b d entries overflow is =
    ap (option_and_then (λ (place : ℕ). count_of_bits (two_bits_of (block_at image place) (d % 16320)) overflow d))
    (ap (λ (items : List (ℕ × IndexEntry)). option_map (λ (v : ℕ). v % 2 ^ 64) (value_of_key (map bitmap_entry items) (d / 16320))) is ∙ places_same entries (d / 16320))
