-- Byte steps of the checksum on a number whose low bits have the bytes already.
-- Four streams of words of four bytes, the first stream's word the first of each sixteen bytes.
use Rattle.std.specs.Prelude.{ℕ, zero, suc, bit_xor}
use Rattle.pd_kinds.specs.Field.{crc_bit}

-- eight bits' steps
unfoldable pub byte_step : ℕ → ℕ
byte_step x = crc_bit (crc_bit (crc_bit (crc_bit (crc_bit (crc_bit (crc_bit (crc_bit x)))))))

-- the steps of so many bytes
unfoldable pub byte_steps : ℕ → ℕ → ℕ
byte_steps zero x = x
byte_steps (suc count) x = byte_step (byte_steps count x)

-- the checksum that four words, one after the other, come to
unfoldable pub joined : ℕ → ℕ → ℕ → ℕ → ℕ
joined first second third fourth = bit_xor (bit_xor (bit_xor (byte_steps 16 first) (byte_steps 12 second)) (byte_steps 8 third)) (byte_steps 4 fourth)
