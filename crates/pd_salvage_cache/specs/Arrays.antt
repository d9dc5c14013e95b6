-- What is held of an array.
-- What is held of a cache's arrays.
use Rattle.std.specs.Prelude.{◌≡◌, ℕ, ◌+◌, ◌/◌, ◌%◌, ◌≤◌, nat_lt, if◌then◌else◌, List, map, Option, Some, None, ◌==◌, ◌&&◌, Bool, not, IfSome, is_none, is_some}
use Rattle.std.specs.Option.{ForSome, unwrap_or}
use Rattle.pd_kinds.specs.Array.{max_words, word_at}
use Rattle.pd_kinds.specs.Node.{Entry}
use Rattle.pd_kinds.specs.CacheFormat.{CacheFields, has_dirty_bits}
use Rattle.pd_kinds.specs.Whole.{is_dirty_word, is_valid_word, origin_of_word}
use Rattle.pd_laid.specs.SavedCache.{saved_word_at, saved_word_of, is_bit_saved}
use Rattle.pd_laid.specs.Salvage.{salvaged_entries}
use Rattle.pd_array.specs.Word.{size_of}
use Rattle.pd_tree.specs.Cursor.{item_of, root_of}
use Rattle.pd_tree.specs.Search.{lookup}
use Rattle.pd_salvage_cache.specs.declared.array.SavedArray.{SavedArray}
use Rattle.pd_salvage_cache.specs.Places.{places_left}
use Rattle.pd_salvage_cache.specs.declared.arrays.Arrays.{Arrays}
use Rattle.pd_salvage_cache.specs.declared.saved.Row.{Row}

-- word i of the block that is held
abbrev pub held_word : SavedArray → ℕ → Option ℕ
held_word array i = if nat_lt i array.count then Some (word_at (size_of array.word) array.block.0 i) else None

-- the block in a place is held
abbrev pub HoldsBlock : List (List ℕ) → ℕ → SavedArray → Type 0
HoldsBlock image place array = (i : ℕ) → held_word array i ≡ saved_word_at (size_of array.word) array.nr image place i

-- of an array of which these entries of its tree are saved, later blocks can be found, and the words of the last one
-- that was asked are held
pub record Knows (image : List (List ℕ)) (entries : List Entry) (array : SavedArray) : Type 0 where
  pub later : (key : ℕ) → array.next ≤ key → lookup key (places_left image array.places) ≡ lookup key (map (item_of root_of) entries)
  pub here : (i : ℕ) → i / max_words (size_of array.word) + 1 ≡ array.next
      → held_word array (i % max_words (size_of array.word)) ≡ saved_word_of (size_of array.word) array.nr image entries i

-- an array stays the same but for what is held of it
abbrev pub IsSameArray : Option SavedArray → Option SavedArray → Type 0
IsSameArray None None = Unit {0}
IsSameArray None (Some new) = ⊥
IsSameArray (Some old) None = ⊥
IsSameArray (Some old) (Some new) = (new.word ≡ old.word) × (new.nr ≡ old.nr)

-- whether a cache has hints
abbrev pub has_hints : CacheFields → Bool
has_hints fields = (fields.hint_size == 4) && not (fields.hint_root == 0)

-- the hint of a cache block whose key is held
abbrev pub hint_held : Option SavedArray → ℕ → ℕ
hint_held None block = 0
hint_held (Some hints) block = unwrap_or (held_word hints (block % 1018)) 0

-- whether such a block is taken for dirty
abbrev pub dirty_held : Option SavedArray → ℕ → ℕ → Bool
dirty_held None word block = is_dirty_word word
dirty_held (Some bits) word block = is_bit_saved (held_word bits (block / 64 % 509)) (block % 64)

-- the row of such a block with a valid word
abbrev pub row_with : Arrays → ℕ → ℕ → Row
row_with arrays block word = record {
  block = block;
  dirty = dirty_held arrays.bits word block;
  hint = hint_held arrays.hints block;
  origin = origin_of_word word;
}

-- that of a block with this word, and that of a block
abbrev pub row_of : Arrays → ℕ → Option ℕ → Option Row
row_of arrays block None = None
row_of arrays block (Some word) = if is_valid_word word then Some (row_with arrays block word) else None

abbrev pub row_held : Arrays → ℕ → Option Row
row_held arrays block = row_of arrays block (held_word arrays.words (block % 509))

-- whether the mapping word of such a block is lost
abbrev pub is_lost : Arrays → ℕ → Bool
is_lost arrays block = is_none (held_word arrays.words (block % 509))

-- the blocks of an array with this root are known, where there is one
abbrev pub KnowsSome : List (List ℕ) → ℕ → ℕ → Option SavedArray → Type 0
KnowsSome image nr root array = IfSome array (Knows image (salvaged_entries 8 nr image root))

-- those of all arrays are
pub record KnowsCache (image : List (List ℕ)) (fields : CacheFields) (arrays : Arrays) : Type 0 where
  pub words : Knows image (salvaged_entries 8 fields.meta_map.blocks image fields.mapping_root) arrays.words
  pub hints : KnowsSome image fields.meta_map.blocks fields.hint_root arrays.hints
  pub bits : KnowsSome image fields.meta_map.blocks fields.dirty_root arrays.bits

-- they are those of a cache
pub record IsOfCache (fields : CacheFields) (arrays : Arrays) : Type 0 where
  pub number : arrays.nr ≡ fields.meta_map.blocks
  pub hints : is_some arrays.hints ≡ has_hints fields
  pub bits : is_some arrays.bits ≡ has_dirty_bits fields.version

-- a key of the mapping array can be asked
pub record IsReadyFor (key : ℕ) (arrays : Arrays) : Type 0 where
  pub words : arrays.words.next ≤ key + 1
  pub hints : ForSome arrays.hints (λ (a : SavedArray). a.next ≤ key / 2 + 1)
  pub bits : ForSome arrays.bits (λ (a : SavedArray). a.next ≤ key / 64 + 1)

-- it is held
pub record HoldsKey (key : ℕ) (arrays : Arrays) : Type 0 where
  pub words : arrays.words.next ≡ key + 1
  pub hints : IfSome arrays.hints (λ (a : SavedArray). a.next ≡ key / 2 + 1)
  pub bits : IfSome arrays.bits (λ (a : SavedArray). a.next ≡ key / 64 + 1)
