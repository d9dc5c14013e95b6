-- What is held of a cache's arrays is what is saved of them.
use Rattle.std.proofs.Common.{◌≡◌, ℕ, zero, suc, ◌+◌, ◌/◌, ◌%◌, ◌≤◌, ◌<◌, List, [], ◌∷◌, map, Option, Some, None, IfSome, is_some, refl, sym, ap, ◌∙◌, arith, inl, inr, Bool, true, false, cond, not, nat_lt, ◌++◌}
use Rattle.std.specs.List.{cons_option, filter_map, range_with_len}
use Rattle.std.specs.Option.{ForSome, option_map, unwrap_or, option_and_then}
use Rattle.std.proofs.lemmas.Bool.{cases_Bool, le-ltb, not-false, not-true}
use Rattle.pd_kinds.specs.CacheFormat.{CacheFields, has_dirty_bits}
use Rattle.pd_kinds.specs.Node.{Entry}
use Rattle.pd_kinds.specs.Whole.{is_valid_word}
use Rattle.pd_kinds.specs.Array.{max_words, word_at, word_count}
use Rattle.pd_kinds.specs.Graph.{is_outside, block_at}
use Rattle.pd_kinds.specs.Trees.{value_of_key}
use Rattle.pd_laid.specs.Salvage.{salvaged_entries}
use Rattle.pd_laid.specs.SavedCache.{is_bit_saved, is_saved_dirty, saved_entry, saved_entry_of, saved_hint, saved_word, saved_word_of, is_array_damaged, saved_word_at}
use Rattle.pd_value.specs.declared.thin.Root.{Root}
use Rattle.pd_array.specs.declared.array.Word.{Word}
use Rattle.pd_array.specs.declared.array.Word.TheVariants.{Eight, Four}
use Rattle.pd_array.specs.Word.{size_of}
use Rattle.pd_tree.specs.Cursor.{root_of}
use Rattle.pd_tree.proofs.TreeLemmas.{lookup_entries}
use Rattle.pd_tree.specs.Stack.{IsNext}
use Rattle.pd_salvage_cache.specs.declared.array.SavedArray.{SavedArray}
use Rattle.pd_salvage_cache.specs.declared.arrays.Arrays.{Arrays}
use Rattle.pd_salvage_cache.specs.declared.saved.Row.{Row}
use Rattle.pd_salvage_cache.specs.Arrays.{IsSameArray, Knows, held_word, HoldsKey, IsOfCache, IsReadyFor, KnowsCache, KnowsSome, dirty_held, has_hints, hint_held, row_held, row_of, HoldsBlock}
use Rattle.pd_salvage_cache.specs.SavedCache.{entry}
use Rattle.pd_salvage_cache.specs.Sound.{sound_count}
use Rattle.pd_salvage_cache.specs.Places.{places_left, KnowsHere, KnowsNothing, ahead_items}
use Rattle.pd_salvage_cache.specs.declared.places.Places.{Places}
use Rattle.pd_salvage.specs.Details.{IsFound, FindsSame}
use Rattle.pd_salvage.specs.declared.cursor.SavedCursor.{SavedCursor}
use Rattle.pd_salvage.specs.Cursor.{saved_left}
use Rattle.pd_salvage.proofs.AscendLemmas.{finds_later, found_here, found_none, found_past, joined_same}

-- an array keeps its kind
pub same_kind : (word : Word) (nr : ℕ) (old new : Option SavedArray) → IsSameArray old new → ForSome old (λ (a : SavedArray). (a.word ≡ word) × (a.nr ≡ nr))
    → ForSome new (λ (a : SavedArray). (a.word ≡ word) × (a.nr ≡ nr))
same_kind word nr None None same is a there = cc
same_kind word nr None (Some b) same is a there = absurd same
same_kind word nr (Some old) None same is a there = cc
same_kind word nr (Some old) (Some b) same is a there =
    let equal : a ≡ b = ap (λ (o : Option SavedArray). unwrap_or o b) (sym there) in
    let here = is old refl in
    (ap (λ (x : SavedArray). x.word) equal ∙ (same.0 ∙ here.0), ap (λ (x : SavedArray). x.nr) equal ∙ (same.1 ∙ here.1))

-- a key later than the one that is held can be asked
next_some : (n m : ℕ) (o : Option SavedArray) → n ≤ m → IfSome o (λ (a : SavedArray). a.next ≡ n) → ForSome o (λ (a : SavedArray). a.next ≤ m)
next_some n m None below is a there = cc
next_some n m (Some b) below is a there = let same : b ≡ a = ap (λ (o : Option SavedArray). unwrap_or o b) there in omega (arith, ap (λ (c : SavedArray). c.next) same, is)

pub ready_later : (key : ℕ) (arrays : Arrays) → HoldsKey key arrays → IsReadyFor (key + 1) arrays
ready_later key arrays holds = record {
  words = omega (arith, holds.words);
  hints = next_some (key / 2 + 1) ((key + 1) / 2 + 1) arrays.hints (omega arith) holds.hints;
  bits = next_some (key / 64 + 1) ((key + 1) / 64 + 1) arrays.bits (omega arith) holds.bits;
}

-- the words of a block of eight bytes each, and of four
module _ (image : List (List ℕ)) (entries : List Entry) (a : SavedArray) (knows : Knows image entries a) (nr i : ℕ) (number : a.nr ≡ nr) where
  pub eight_is : a.word ≡ Eight → i / 509 + 1 ≡ a.next → held_word a (i % 509) ≡ saved_word_of 8 nr image entries i
  eight_is word next =
      let size : size_of a.word ≡ 8 = ap size_of word in
      rw size (rw (size, number) at (knows.here i (rw size next)))

  four_is : a.word ≡ Four → i / 1018 + 1 ≡ a.next → held_word a (i % 1018) ≡ saved_word_of 4 nr image entries i
  four_is word next =
      let size : size_of a.word ≡ 4 = ap size_of word in
      rw size (rw (size, number) at (knows.here i (rw size next)))

module _ (image : List (List ℕ)) (fields : CacheFields) (i : ℕ) where
  abbrev nr : ℕ
  nr = fields.meta_map.blocks

  hint_is : (hints : Option SavedArray) → is_some hints ≡ has_hints fields → KnowsSome image nr fields.hint_root hints
      → IfSome hints (λ (a : SavedArray). (a.word ≡ Four) × (a.nr ≡ nr)) → IfSome hints (λ (a : SavedArray). i / 1018 + 1 ≡ a.next)
      → hint_held hints i ≡ saved_hint fields image i
  hint_is None has knows is next = rw (← has) refl
  hint_is (Some a) has knows is next =
      rw (← has) (ap (λ (o : Option ℕ). unwrap_or o 0) (four_is image (salvaged_entries 8 nr image fields.hint_root) a knows nr i is.1 is.0 next))

  dirty_is : (bits : Option SavedArray) (word : ℕ) → is_some bits ≡ has_dirty_bits fields.version → KnowsSome image nr fields.dirty_root bits
      → IfSome bits (λ (a : SavedArray). (a.word ≡ Eight) × (a.nr ≡ nr)) → IfSome bits (λ (a : SavedArray). i / 64 / 509 + 1 ≡ a.next)
      → dirty_held bits word i ≡ is_saved_dirty fields image word i
  dirty_is None word has knows is next = rw (← has) refl
  dirty_is (Some a) word has knows is next =
      rw (← has) (ap (λ (o : Option ℕ). is_bit_saved o (i % 64)) (eight_is image (salvaged_entries 8 nr image fields.dirty_root) a knows nr (i / 64) is.1 is.0 next))

  entry_is : (arrays : Arrays) (o : Option ℕ) → hint_held arrays.hints i ≡ saved_hint fields image i → ((word : ℕ) → dirty_held arrays.bits word i ≡ is_saved_dirty fields image word i)
      → option_map entry (row_of arrays i o) ≡ saved_entry_of fields image i o
  entry_is arrays None hint dirty = refl
  entry_is arrays (Some word) hint dirty = elim (cases_Bool (is_valid_word word)) [
    | inl valid ↦ rw (valid, hint, dirty word) refl
    | inr other ↦ rw other refl
  ]

at_next : (n m : ℕ) (o : Option SavedArray) → m ≡ n → IfSome o (λ (a : SavedArray). a.next ≡ n) → IfSome o (λ (a : SavedArray). m ≡ a.next)
at_next n m None same is = tt
at_next n m (Some a) same is = same ∙ sym is

of_number : (number other : ℕ) (P : SavedArray → Type 0) (o : Option SavedArray) → number ≡ other → ForSome o (λ (a : SavedArray). P a × (a.nr ≡ number)) → IfSome o (λ (a : SavedArray). P a × (a.nr ≡ other))
of_number number other P None same is = tt
of_number number other P (Some a) same is = let here = is a refl in (here.0, here.1 ∙ same)

-- the mapping word of a block whose key is held is what is saved of it
pub word_saved : (image : List (List ℕ)) (fields : CacheFields) (arrays : Arrays) (key i : ℕ) → KnowsCache image fields arrays → IsOfCache fields arrays → HoldsKey key arrays → i / 509 ≡ key
    → held_word arrays.words (i % 509) ≡ saved_word 8 fields.meta_map.blocks image fields.mapping_root i
word_saved image fields arrays key i knows of holds at =
    let nr = fields.meta_map.blocks in
    eight_is image (salvaged_entries 8 nr image fields.mapping_root) arrays.words knows.words nr i (arrays.words_are.1 ∙ of.number) arrays.words_are.0 (omega (arith, at, holds.words))

-- its row is so
pub row_saved : (image : List (List ℕ)) (fields : CacheFields) (arrays : Arrays) (key i : ℕ) → KnowsCache image fields arrays → IsOfCache fields arrays → HoldsKey key arrays → i / 509 ≡ key
    → option_map entry (row_held arrays i) ≡ saved_entry fields image i
row_saved image fields arrays key i knows of holds at =
    let nr = fields.meta_map.blocks in
    rw (word_saved image fields arrays key i knows of holds at)
    (entry_is image fields i arrays (saved_word 8 nr image fields.mapping_root i)
    (hint_is image fields i arrays.hints of.hints knows.hints (of_number arrays.nr nr (λ (a : SavedArray). a.word ≡ Four) arrays.hints of.number arrays.hints_are) (at_next (key / 2 + 1) (i / 1018 + 1) arrays.hints (omega (arith, at)) holds.hints))
    (λ word. dirty_is image fields i arrays.bits word of.bits knows.bits (of_number arrays.nr nr (λ (a : SavedArray). a.word ≡ Eight) arrays.bits of.number arrays.bits_are) (at_next (key / 64 + 1) (i / 64 / 509 + 1) arrays.bits (omega (arith, at)) holds.bits)))

-- what is made of numbers in a row
pub same_in_row : {Y : Type 0} (f g : ℕ → Option Y) (a n : ℕ) → ((i : ℕ) → a ≤ i → i < a + n → f i ≡ g i) → filter_map f (range_with_len a n) ≡ filter_map g (range_with_len a n)
same_in_row {Y} f g a zero same = refl
same_in_row {Y} f g a (suc n) same =
    rw (same a (omega arith) (omega arith), same_in_row f g (a + 1) n (λ i from below. same i (omega arith) (omega arith))) refl

pub none_in_row : {Y : Type 0} (f : ℕ → Option Y) (a n : ℕ) → ((i : ℕ) → a ≤ i → i < a + n → f i ≡ None) → filter_map f (range_with_len a n) ≡ []
none_in_row {Y} f a zero none = refl
none_in_row {Y} f a (suc n) none =
    rw (none a (omega arith) (omega arith)) (none_in_row f (a + 1) n (λ i from below. none i (omega arith) (omega arith)))

map_option : (o : Option Row) (rows : List Row) → map entry (cons_option o rows) ≡ cons_option (option_map entry o) (map entry rows)
map_option None rows = refl
map_option (Some row) rows = refl

pub entries_made : (f : ℕ → Option Row) (xs : List ℕ) → map entry (filter_map f xs) ≡ filter_map (λ i. option_map entry (f i)) xs
entries_made f [] = refl
entries_made f (x ∷ xs) = map_option (f x) (filter_map f xs) ∙ ap (cons_option (option_map entry (f x))) (entries_made f xs)

-- What is held of an array.

-- how many words are saved, by whether the block breaks no rule
pub count_sound : (size place : ℕ) (block : List ℕ) (sound : Bool) → sound ≡ not (is_array_damaged size place block) → sound ≡ true → word_count size block ≡ sound_count size place block
count_sound size place block sound is true_is = rw (not-true (is_array_damaged size place block) (sym is ∙ true_is)) refl

pub count_lost : (size place : ℕ) (block : List ℕ) (sound : Bool) → sound ≡ not (is_array_damaged size place block) → sound ≡ false → 0 ≡ sound_count size place block
count_lost size place block sound is false_is = rw (not-false (is_array_damaged size place block) (sym is ∙ false_is)) refl

-- nothing is saved of a block outside the metadata
pub none_outside : (size nr place i : ℕ) (image : List (List ℕ)) → is_outside nr place ≡ true → saved_word_at size nr image place i ≡ None
unfolding saved_word_at
none_outside size nr place i image outside = rw outside refl

-- the words of a sound one
pub words_inside : (size nr place i : ℕ) (image : List (List ℕ)) (block : List ℕ) → is_outside nr place ≡ false → block_at image place ≡ block
    → cond (nat_lt i (sound_count size place block)) (Some (word_at size block i)) None ≡ saved_word_at size nr image place i
unfolding saved_word_at
words_inside size nr place i image block inside is = elim (cases_Bool (is_array_damaged size place block)) [
  | inl damaged ↦ rw (is, inside, damaged, le-ltb i 0 (omega arith)) refl
  | inr sound ↦ rw (is, inside, sound) refl
]

-- what is found of a key is its value
value_found : (root : Option Root) (value : Option ℕ) → root ≡ option_map root_of value → option_map (λ (r : Root). r.0) root ≡ value
value_found root None is = rw is refl
value_found root (Some value) is = rw is refl

-- no word is held
pub none_held : (array : SavedArray) (i : ℕ) → array.count ≡ 0 → held_word array i ≡ None
none_held array i none = rw (none, le-ltb i 0 (omega arith)) refl

module _ (image : List (List ℕ)) (entries : List Entry) (old : SavedArray) (knows : Knows image entries old) (key : ℕ) (after : old.next ≤ key) where
  abbrev per : ℕ
  per = max_words (size_of old.word)

  -- the value of the key, by what was found
  by_found : (found : Option Root) (left : List (ℕ × Root)) → IsFound key found (places_left image old.places) left → option_map (λ (r : Root). r.0) found ≡ value_of_key entries key
  by_found found left is = value_found found (value_of_key entries key) (is.here ∙ (knows.later key after ∙ lookup_entries root_of key entries))

  word_is : (i : ℕ) → i / per ≡ key → saved_word_of (size_of old.word) old.nr image entries i ≡ option_and_then (λ (place : ℕ). saved_word_at (size_of old.word) old.nr image place (i % per)) (value_of_key entries key)
  unfolding saved_word_of
  word_is i is = rw is refl

  module _ (new : SavedArray) (next : new.next ≡ key + 1) (word : new.word ≡ old.word) (nr : new.nr ≡ old.nr) where
    -- a block that was read
    pub knows_read : (root : Root) → IsFound key (Some root) (places_left image old.places) (places_left image new.places) → HoldsBlock image root.0 new → Knows image entries new
    knows_read root found holds = record {
      later = λ k past. found.later k (omega (arith, next)) ∙ knows.later k (omega (arith, next));
      here = λ i is.
          let at : i / per ≡ key = omega (arith, next, rw word at is) in
          holds (i % max_words (size_of new.word))
          ∙ rw (word, nr) (sym (word_is i at ∙ ap (λ (o : Option ℕ). option_and_then (λ (place : ℕ). saved_word_at (size_of old.word) old.nr image place (i % per)) o) (sym (by_found (Some root) (places_left image new.places) found))));
    }

    -- a key that has none
    pub knows_none : new.count ≡ 0 → IsFound {X = Root} key None (places_left image old.places) (places_left image new.places) → Knows image entries new
    knows_none none found = record {
      later = λ k past. found.later k (omega (arith, next)) ∙ knows.later k (omega (arith, next));
      here = λ i is.
          let at : i / per ≡ key = omega (arith, next, rw word at is) in
          none_held new (i % max_words (size_of new.word)) none
          ∙ rw (word, nr) (sym (word_is i at ∙ ap (λ (o : Option ℕ). option_and_then (λ (place : ℕ). saved_word_at (size_of old.word) old.nr image place (i % per)) o) (sym (by_found None (places_left image new.places) found))));
    }

-- What is found of the blocks of an array, asked by ascending key.

-- what the entry that was read last says
module _ (key next : ℕ) (root : Root) (self : Places) (read : self.ahead ≡ Some (next, root)) where
  pub knows_here : next ≡ key → KnowsHere key (Some root) self self
  knows_here is = record { same = refl; found = λ image. rw read (found_here key next root (saved_left 8 root_of image self.entries) is) }

  pub knows_past : key < next → KnowsHere key None self self
  knows_past past = record {
    same = refl;
    found = λ image. rw read (found_past key next self.entries.least root _ past (self.follows (next, root) read));
  }

  pub knows_nothing : (new : Places) → next < key → new.ahead ≡ None → new.entries ≡ self.entries → KnowsNothing key self new
  knows_nothing new less none same = record {
    none = none;
    same = same;
    finds = λ image. rw (read, none, same) (finds_later key next root (saved_left 8 root_of image self.entries) less);
  }

-- what is known is found
pub found_known : (key : ℕ) (known : Option Root) (image : List (List ℕ)) (start : List (ℕ × Root)) (old new : Places) → FindsSame key start (places_left image old) → KnowsHere key known old new
    → IsFound key known start (places_left image new)
found_known key known image start old new same knows =
    rw knows.same (record { here = (knows.found image).here ∙ same key (omega arith); later = λ later after. same later (omega arith) })

-- nothing is found where nothing is left to read
pub found_end : (key : ℕ) (image : List (List ℕ)) (start : List (ℕ × Root)) (old known : Places) (entries : SavedCursor Root)
    → FindsSame key start (places_left image old) → KnowsNothing key old known
    → IsNext {X = ℕ × Root} None (saved_left 8 root_of image known.entries) (saved_left 8 root_of image entries)
    → IsFound {X = Root} key None start (ahead_items known.ahead ++ saved_left 8 root_of image entries)
found_end key image start old known entries same nothing next =
    rw nothing.none
    (found_none key start (saved_left 8 root_of image known.entries) (saved_left 8 root_of image entries)
    (joined_same key start (places_left image old) (saved_left 8 root_of image known.entries) same (rw nothing.none at (nothing.finds image))) next)
