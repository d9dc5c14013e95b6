-- The stored counts of data blocks, as they are read in their order.
use Rattle.std.specs.Prelude.{ℕ, Bool, false, ◌==◌, ◌≡◌, ◌+◌, ◌*◌, ◌%◌, ◌<◌, ◌≤◌, List, Option, Some, None}
use Rattle.pd_kinds.specs.Bitmap.{bitmaps_for, two_bits_of}
use Rattle.pd_kinds.specs.Trees.{value_of_key}
use Rattle.pd_kinds.specs.declared.superblocks.SmRoot.{SmRoot}
use Rattle.pd_value.specs.declared.space_map.Count.{Count}
use Rattle.pd_value.specs.declared.space_map.IndexEntry.{IndexEntry}
use Rattle.pd_tree.specs.Cursor.{cursor_items}
use Rattle.pd_smap.specs.Overflow.{data_place, index_from, overflow_items, overflow_of, place_in}
use Rattle.pd_smap.specs.Steps.{IsAhead, bits_by, stored_by}
use Rattle.pd_uses.specs.declared.stored.StoredCounts.{StoredCounts}
use Rattle.pd_uses.specs.declared.stored.Stretch.{Stretch}

-- a stored count is 0; where none is stored it isn't
abbrev pub is_zero : Option ℕ → Bool
is_zero None = false
is_zero (Some count) = count == 0

-- the two bits of a data block, and whether its stored count is 0, by the trees of a map
abbrev pub bits_of : List (List ℕ) → SmRoot → ℕ → ℕ
bits_of image map b = bits_by (data_place map.bitmap_root) image b

abbrev pub is_free : List (List ℕ) → SmRoot → ℕ → Bool
is_free image map b = is_zero (stored_by (bits_of image map b) (value_of_key (overflow_of image map.overflow_root) b))

-- Over an image, from a block on: the bitmap that was read last has the two bits of the blocks that are left of it, so many
-- bitmaps were read, the entries of the index that are ahead name the others, and those of the overflow tree are enough
pub record AreLeft (image : List (List ℕ)) (map : SmRoot) (bitmaps : ℕ) (bitmap : List ℕ) (at : ℕ) (index : List (ℕ × IndexEntry)) (over : List (ℕ × Count)) : Type 0 where
  pub bits : (b : ℕ) → at ≤ b → b < 16320 * bitmaps → two_bits_of bitmap (b % 16320) ≡ bits_of image map b
  pub places : (i : ℕ) → place_in index i ≡ data_place map.bitmap_root image (bitmaps + i)
  pub ahead : IsAhead at (value_of_key (overflow_of image map.overflow_root)) over

-- the same of counts that are still to be read, of which some bitmaps were
abbrev pub AreLeftAfter : List (List ℕ) → SmRoot → ℕ → List ℕ → StoredCounts → Type 0
AreLeftAfter image map bitmaps bitmap counts =
    AreLeft image map bitmaps bitmap counts.at (cursor_items 16 index_from image counts.index) (overflow_items counts.overflow image)

-- the bitmaps before the next block were read
abbrev pub AreReadUpTo : List (List ℕ) → SmRoot → List ℕ → StoredCounts → Type 0
AreReadUpTo image map bitmap counts = AreLeftAfter image map (bitmaps_for counts.at) bitmap counts

-- each block of a stretch is free where it says so
abbrev pub IsTold : List (List ℕ) → SmRoot → Stretch → Type 0
IsTold image map stretch = (b : ℕ) → stretch.first ≤ b → b < stretch.first + stretch.length → is_free image map b ≡ stretch.unused

-- a stretch is what comes next
pub record ComesNext (stretch : Stretch) (at end : ℕ) : Type 0 where
  pub first : stretch.first ≡ at
  pub some : 1 ≤ stretch.length
  pub within : at + stretch.length ≤ end

-- what comes next was read: nothing, at the end, or a stretch
pub record Passes (stretch : Stretch) (old new : StoredCounts) : Type 0 where
  pub next : ComesNext stretch old.at old.end
  pub at : new.at ≡ old.at + stretch.length
  pub end : new.end ≡ old.end

abbrev pub Follows : Option Stretch → StoredCounts → StoredCounts → Type 0
Follows None old new = (old.end ≤ old.at) × (new.at ≡ old.at) × (new.end ≡ old.end)
Follows (Some stretch) old new = Passes stretch old new

-- over an image the stretch is right, and the counts behind it are left
pub record TellsStretch (image : List (List ℕ)) (map : SmRoot) (stretch : Stretch) (bitmap : List ℕ) (counts : StoredCounts) : Type 0 where
  pub told : IsTold image map stretch
  pub left : AreReadUpTo image map bitmap counts

abbrev pub TellsNext : List (List ℕ) → SmRoot → Option Stretch → List ℕ → StoredCounts → Type 0
TellsNext image map None bitmap counts = Unit {0}
TellsNext image map (Some stretch) bitmap counts = TellsStretch image map stretch bitmap counts
