-- Trusted base.
-- What an image is: blocks of 4096 bytes.
-- How many blocks the tools take.
use Rattle.std.specs.Prelude.{◌≡◌, ℕ, ◌<◌, List, length, slice_index, min, ◌^◌, Bool, ◌==◌, ◌||◌, nat_lt}
use Rattle.std.specs.List.{All}
use Rattle.pd_kinds.specs.Graph.{block_at}
use Rattle.pd_kinds.specs.declared.limits.TheConstants.{MAX_META_BLOCKS}

-- what the blocks hold are bytes
abbrev pub HasBytes : List (List ℕ) → Type 0
HasBytes image = (b i : ℕ) → slice_index (block_at image b) i < 256

-- each block has its 4096
abbrev pub HasWholeBlocks : List (List ℕ) → Type 0
HasWholeBlocks image = All (λ block. length block ≡ 4096) image

-- an image is blocks of 4096 bytes
pub record IsImage (image : List (List ℕ)) : Type 0 where
  pub bytes : HasBytes image
  pub blocks : HasWholeBlocks image

-- as many data blocks of a thin pool as the tools take
abbrev pub max_data_blocks : ℕ
max_data_blocks = 2 ^ 40

-- so many of a device's blocks can have metadata: all, as far as a space map can cover them
abbrev pub room_of : ℕ → ℕ
room_of blocks = min blocks MAX_META_BLOCKS

-- whether a number of metadata blocks is out of range: none, more than the device has, or more than 255
-- bitmaps cover
abbrev pub is_meta_size_bad : ℕ → ℕ → Bool
is_meta_size_bad device_blocks nr = (nr == 0) || (nat_lt device_blocks nr || nat_lt MAX_META_BLOCKS nr)
