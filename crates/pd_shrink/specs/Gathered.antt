-- Free data blocks as they are gathered, bitmap after bitmap.
-- The data blocks whose stored count is 0, by the bytes of any image.
use Rattle.std.specs.Prelude.{ℕ, Bool, false, ◌==◌, List, filter, Option, Some, None, ◌≡◌, ◌+◌, ◌≤◌, ◌++◌, length, take, IfSome}
use Rattle.std.specs.List.{range_with_len}
use Rattle.pd_kinds.specs.declared.superblocks.SmRoot.{SmRoot}
use Rattle.pd_kinds.specs.Trees.{stored_data_in}
use Rattle.pd_kinds.specs.Objects.{DeviceState}
use Rattle.pd_value.specs.declared.space_map.Count.{Count}
use Rattle.pd_image.specs.Device.{OnlyReads}
use Rattle.pd_smap.specs.Overflow.{index_of, overflow_of, overflow_items, overflow_reads}
use Rattle.pd_smap.specs.declared.overflow.Overflow.{Overflow}
use Rattle.pd_smap.specs.Steps.{IsAhead, stored_by}
use Rattle.pd_laws_changed.specs.KnownPool.{AreBelow, Ascend}
use Rattle.pd_shrink.specs.declared.free.FreeBlocks.{FreeBlocks}

-- a stored count is 0; where none is stored it isn't
abbrev pub is_zero : Option ℕ → Bool
is_zero None = false
is_zero (Some count) = count == 0

-- the stored count of a data block, by the trees of a map
abbrev pub is_unused : List (List ℕ) → SmRoot → ℕ → Bool
is_unused image map d = is_zero (stored_data_in image (index_of image map.bitmap_root) (overflow_of image map.overflow_root) d)

-- the data blocks below a number whose count is 0, ascending
unfoldable pub unused_below : List (List ℕ) → SmRoot → ℕ → List ℕ
unused_below image map end = filter (is_unused image map) (range_with_len 0 end)

-- of so many blocks from one on, those of which this holds
unfoldable pub numbers_where : (ℕ → Bool) → ℕ → ℕ → List ℕ
numbers_where is low len = filter is (range_with_len low len)

-- whether the stored count of a block is 0, by the two bits of each block and by what the overflow tree has
abbrev pub is_free_by : (ℕ → ℕ) → (ℕ → Option ℕ) → ℕ → Bool
is_free_by bits over d = is_zero (stored_by (bits d) (over d))

-- what is held are the first ones of these, as many as are wanted, and how many they are
pub record HoldsFirstFree (wanted : ℕ) (all : List ℕ) (free : FreeBlocks) : Type 0 where
  pub number : free.number ≡ length all
  pub first : free.first.items ≡ take wanted all

-- these were gathered
abbrev pub Gathers : ℕ → List ℕ → FreeBlocks → FreeBlocks → Type 0
Gathers wanted more old new = (all : List ℕ) → HoldsFirstFree wanted all old → HoldsFirstFree wanted (all ++ more) new

-- blocks ascend from one on, and lie below another one
pub record AscendWithin (low high : ℕ) (ds : List ℕ) : Type 0 where
  pub below : AreBelow high ds
  pub ascend : Ascend low ds

-- where a search stands: the device, the free blocks so far, and over an image the entries of the overflow tree that are
-- ahead and how many reads are left
pub record Standing : Type 0 where
  pub device : DeviceState
  pub free : FreeBlocks
  pub items : List (List ℕ) → List (ℕ × Count)
  pub reads : List (List ℕ) → ℕ

abbrev pub standing : DeviceState → FreeBlocks → Overflow → Standing
standing device free overflow = record {
  device = device;
  free = free;
  items = overflow_items overflow;
  reads = overflow_reads overflow;
}

-- and may read so many blocks more
abbrev pub with_reads : (List (List ℕ) → ℕ) → Standing → Standing
with_reads more s = record s { reads = λ image. s.reads image + more image }

-- over an image these are the free ones of so many blocks from one on, where the entries ahead are enough
pub record FindsFree (bits : List (List ℕ) → ℕ → ℕ) (image : List (List ℕ)) (low len : ℕ) (free : List ℕ) (old new : Standing) : Type 0 where
  pub reads : new.device.reads + new.reads image ≤ old.device.reads + old.reads image
  pub choice : (over : ℕ → Option ℕ) → IsAhead low over (old.items image) → free ≡ numbers_where (is_free_by (bits image) over) low len
  pub ahead : (over : ℕ → Option ℕ) → IsAhead low over (old.items image) → IsAhead (low + len) over (new.items image)

-- so many blocks from one on were searched, over any device
pub record Searched (wanted : ℕ) (bits : List (List ℕ) → ℕ → ℕ) (low len : ℕ) (old new : Standing) : Type 0 where
  pub kept : OnlyReads old.device new.device
  pub faults : new.device.faults ≡ old.device.faults
  pub most : new.free.number ≤ old.free.number + len
  pub free : List ℕ
  pub lie : AscendWithin low (low + len) free
  pub gathered : Gathers wanted free old.free new.free
  pub told : IfSome old.device.held (λ image. FindsFree bits image low len free old new)
