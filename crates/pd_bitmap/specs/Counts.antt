-- The counts of a bitmap: four in a byte, of two bits each.
-- Runs of equal counts in a bitmap.
-- The entries of an index block, as the struct has them.
use Rattle.std.specs.Prelude.{ℕ, ◌+◌, ◌*◌, ◌/◌, ◌%◌, min, List, ◌++◌, map, replicate, ◌≡◌, ◌<◌, ◌^◌}
use Rattle.std.specs.List.{range_with_len}
use Rattle.std.specs.Int.{bit_at}
use Rattle.pd_kinds.specs.Bitmap.{two_bits_of}
use Rattle.pd_value.specs.declared.space_map.IndexEntry.{IndexEntry}

-- the count at this place of the byte: the high bit is the first of its two bits
abbrev pub count_at : ℕ → ℕ → ℕ
count_at byte place = 2 * bit_at byte (2 * place) + bit_at byte (2 * place + 1)

-- a number as a count, where 3 stands for 3 and all above
abbrev pub stored : ℕ → ℕ
stored number = min 3 number / 2 + 2 * (min 3 number % 2)

-- byte j of the counts that these numbers become
unfoldable pub stored_four : (ℕ → ℕ) → ℕ → ℕ
stored_four numbers j =
    stored (numbers (4 * j)) + 4 * stored (numbers (4 * j + 1)) + 16 * stored (numbers (4 * j + 2)) + 64 * stored (numbers (4 * j + 3))

-- the bitmap of these numbers, that isn't sealed yet
unfoldable pub stored_all : (ℕ → ℕ) → List ℕ
stored_all numbers = replicate 16 0 ++ map (stored_four numbers) (range_with_len 0 4080)

-- the 32 counts of group g of a bitmap are this number, which two bits hold
pub record AreAll (bitmap : List ℕ) (g number : ℕ) : Type 0 where
  pub held : number < 3
  pub counts : (k : ℕ) → k < 32 → two_bits_of bitmap (32 * g + k) ≡ number

-- each number of an entry fits its field
pub record DoFieldsFit (entry : IndexEntry) : Type 0 where
  pub block : entry.block < 2 ^ 64
  pub free : entry.free < 2 ^ 32
  pub none_before : entry.none_before < 2 ^ 32
