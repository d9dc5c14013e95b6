-- The era of each block, by what cursors give of the bytes of an image.
-- Eras that are raised where a writeset holds their blocks.
use Rattle.std.specs.Prelude.{◌≡◌, ℕ, ◌-◌, ◌/◌, ◌%◌, ◌<◌, ◌≤◌, ◌==◌, ◌&&◌, not, nat_lt, max, Bool, true, if◌then◌else◌, List, length, slice_index, ◌^◌, min, map, fold}
use Rattle.std.specs.Int.{bit_at}
use Rattle.std.specs.List.{range_with_len}
use Rattle.pd_kinds.specs.Meaning.{is_bit_set, era_meaning}
use Rattle.pd_kinds.specs.EraFormat.{EraFields, era_fields, writeset_bits, writeset_root}
use Rattle.pd_kinds.specs.Graph.{block_at}
use Rattle.pd_value.specs.declared.era.Writeset.{Writeset}
use Rattle.pd_tree.specs.Below.{items_below}
use Rattle.pd_tree.specs.Cursor.{root_of, words_of_items}

-- an era that a writeset raises, where it holds the block
abbrev pub raised : ℕ → Bool → ℕ → ℕ
raised era held x = max x (if held then era else 0)

-- the eras of the blocks that are held are at least this one, and all others stay
pub record Raises (era : ℕ) (held : ℕ → Bool) (old new : List ℕ) : Type 0 where
  pub number : length new ≡ length old
  pub each : (b : ℕ) → b < length old → slice_index new b ≡ raised era (held b) (slice_index old b)

-- whether the words of a writeset's bits hold a block: a bit counts only below its number of bits
abbrev pub holds : ℕ → List ℕ → ℕ → Bool
holds bits words b = nat_lt b bits && is_bit_set words b

-- whether words do, the first of which has this number
abbrev pub holds_from : ℕ → ℕ → List ℕ → ℕ → Bool
holds_from bits first words b = nat_lt b bits && (not (nat_lt (b / 64) first) && (bit_at (slice_index words (b / 64 - first)) (b % 64) == 1))

-- whether the word with this number does
abbrev pub holds_in_word : ℕ → ℕ → ℕ → ℕ → Bool
holds_in_word bits number word b = nat_lt b bits && ((b / 64 == number) && (bit_at word (b % 64) == 1))

-- the eras of these blocks are at least this one
pub record AreAtLeast (era : ℕ) (held : ℕ → Bool) (eras : List ℕ) : Type 0 where
  pub each : (b : ℕ) → b < length eras → held b ≡ true → era ≤ slice_index eras b

-- the words of this size of the array with this root
abbrev pub words_below : ℕ → List (List ℕ) → ℕ → List ℕ
words_below size image root = words_of_items size image (items_below 8 root_of image 63 root)

-- a number as a writeset, and the archived writesets, each beside its key
abbrev pub set_of : ℕ → Writeset
set_of number = record { bits = writeset_bits number; root = writeset_root number }

abbrev pub sets_below : List (List ℕ) → ℕ → List (ℕ × Writeset)
sets_below image root = items_below 12 set_of image 63 root

-- a key as an era, which stays at the end of its type
abbrev pub era_of_key : ℕ → ℕ
era_of_key key = min key (2 ^ 32 - 1)

-- the era that an archived writeset gives a block
abbrev pub set_era : List (List ℕ) → ℕ → ℕ × Writeset → ℕ
set_era image b item = if holds item.1.bits (words_below 8 image item.1.root) b then era_of_key item.0 else 0

-- the eras that archived writesets raise
abbrev pub with_sets : List (List ℕ) → List (ℕ × Writeset) → ℕ → ℕ → ℕ
with_sets image items b x = fold max x (map (set_era image b) items)

-- whether the current writeset holds a block, where there is one
abbrev pub is_current : List (List ℕ) → EraFields → ℕ → Bool
is_current image fields b = not (fields.current_root == 0) && holds fields.current_bits (words_below 8 image fields.current_root) b

-- the era of a block, and of all blocks
abbrev pub era_below : List (List ℕ) → EraFields → ℕ → ℕ
era_below image fields b =
    max (with_sets image (sets_below image fields.writesets_root) b (slice_index (words_below 4 image fields.array_root) b))
    (if is_current image fields b then fields.era else 0)

unfoldable pub eras_below : List (List ℕ) → EraFields → List ℕ
eras_below image fields = map (era_below image fields) (range_with_len 0 fields.blocks)

-- an era from this one on: of the earlier ones all are as good as the last
abbrev pub from_era : ℕ → ℕ → ℕ
from_era least era = max (least - 1) era

-- the roots of a superblock that are read are below a number of blocks
pub record RootsBelow (blocks : ℕ) (fields : EraFields) : Type 0 where
  pub eras : fields.array_root < blocks
  pub writesets : fields.writesets_root < blocks
  pub current : (fields.current_root ≡ 0 → ⊥) → fields.current_root < blocks

-- what the list of an image is are the eras of its meaning, and the roots that are read are in the image
pub record GivesEras (image : List (List ℕ)) : Type 0 where
  pub eras : (era_meaning image).eras ≡ eras_below image (era_fields (block_at image 0))
  pub roots : RootsBelow (length image) (era_fields (block_at image 0))
