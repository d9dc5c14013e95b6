-- Trusted base.
-- Images, blocks and little-endian fields. A block is a list of 4096 bytes, an image a list of blocks.
-- The checksum of a block: CRC-32C without its final inversion, bit by bit.
-- Leaf values. A value of k bytes is a number below 256 ^ k, put together from its fields, the lowest
-- first, as all numbers in blocks are little-endian.
use Rattle.std.specs.Prelude.{ℕ, zero, suc, ◌+◌, ◌*◌, ◌/◌, ◌%◌, ◌^◌, ◌<◌, List, [], ◌∷◌, ◌++◌, length, take, drop, slice_index, slice_set, replicate, ◌-◌, Bool, ◌==◌, if◌then◌else◌, fold, bit_xor}

-- the little-endian number in the k bytes at offset o of a block
unfoldable pub le : List ℕ → ℕ → ℕ → ℕ
le block o zero = 0
le block o (suc k) = le block o k + 256 ^ k * slice_index block (o + k)

-- the block with the low k bytes of the number at offset o, the lowest first
unfoldable pub put : List ℕ → ℕ → ℕ → ℕ → List ℕ
put block o zero v = block
put block o (suc k) v = slice_set (put block o k v) (o + k) (v / 256 ^ k % 256)

-- the block with these bytes at offset o
unfoldable pub put_bytes : List ℕ → ℕ → List ℕ → List ℕ
put_bytes block o bytes = take o block ++ (bytes ++ drop (o + length bytes) block)

-- the n bytes at offset o of a block
abbrev pub bytes_at : List ℕ → ℕ → ℕ → List ℕ
bytes_at block o n = take n (drop o block)

-- a block of zeros
unfoldable pub zeros : List ℕ
zeros = replicate 4096 0

-- a field of a format's table, and the number in it
pub record Row : Type 0 where
  pub offset : ℕ
  pub size : ℕ
  pub value : ℕ

-- the block with each field of the table written, the first one first
unfoldable pub written : List ℕ → List Row → List ℕ
written block [] = block
written block (row ∷ rows) = written (put block row.offset row.size row.value) rows

-- the table of these offsets, sizes and numbers
abbrev pub rows_at : List ℕ → List ℕ → List ℕ → List Row
rows_at (offset ∷ offsets) (size ∷ sizes) (value ∷ values) =
    record { offset = offset; size = size; value = value } ∷ rows_at offsets sizes values
rows_at _ _ _ = []

-- each number of the table fits its field
abbrev pub DoFit : List Row → Type 0
DoFit [] = Unit {0}
DoFit (row ∷ rows) = (row.value < 256 ^ row.size) × DoFit rows

-- one bit: half the number, rounded down, and the reflected polynomial XORed to an odd one
unfoldable pub crc_bit : ℕ → ℕ
crc_bit crc = if crc % 2 == 0 then crc / 2 else bit_xor (crc / 2) 0x82F63B78

-- one byte: XORed into the low eight bits, and then eight bits' steps
unfoldable pub crc_byte : ℕ → ℕ → ℕ
crc_byte crc byte = crc_bit (crc_bit (crc_bit (crc_bit (crc_bit (crc_bit (crc_bit (crc_bit (bit_xor crc byte))))))))

-- the checksum of the bytes, from a start of all ones and with no inversion at the end
abbrev pub crc32c : List ℕ → ℕ
crc32c bytes = fold crc_byte (2 ^ 32 - 1) bytes

-- the checksum of a block: over all but its own four bytes, XORed with the salt of its kind
unfoldable pub checksum : List ℕ → ℕ → ℕ
checksum block salt = bit_xor (crc32c (drop 4 block)) salt

-- the block has its checksum in its first four bytes
unfoldable pub has_checksum : List ℕ → ℕ → Bool
has_checksum block salt = le block 0 4 == checksum block salt

-- the block with its checksum written, and all else as it was
unfoldable pub sealed : List ℕ → ℕ → List ℕ
sealed block salt = put block 0 4 (checksum block salt)

-- a mapping of a thin device: the data block, and 24 bits of its time ("drivers/md/dm-thin-metadata.c",
-- pack_block_time)
abbrev pub mapping_code : ℕ → ℕ → ℕ
mapping_code block time = block * 2 ^ 24 + time

-- the details of a thin device (struct disk_device_details): two numbers of eight bytes, two of four
abbrev pub details_code : ℕ → ℕ → ℕ → ℕ → ℕ
details_code mapped transaction created snapped =
    mapped + 2 ^ 64 * (transaction + 2 ^ 64 * (created + 2 ^ 32 * snapped))

-- an entry of a space map's index (struct disk_index_entry): the bitmap's block, the number of free
-- blocks, and the first block that may be free
abbrev pub index_code : ℕ → ℕ → ℕ → ℕ
index_code block free none_before = block + 2 ^ 64 * (free + 2 ^ 32 * none_before)

-- an era's writeset (struct writeset_disk of "drivers/md/dm-era-target.c"): its number of bits, its root
abbrev pub writeset_code : ℕ → ℕ → ℕ
writeset_code bits root = bits + 2 ^ 32 * root
