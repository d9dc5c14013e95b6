use Rattle.std.proofs.Common.{◌≡◌, take}
use Rattle.std.specs.List.{fold}
use Rattle.pd_kinds.specs.Field.{crc_byte}
use Rattle.pd_crc.proofs.sealing.one_by_one.Given as goal

abbrev pub invariant-loop-byte : goal.invariant-loop-byte
invariant-loop-byte l = l.crc ≡ fold crc_byte l.start (take l.byte-index l.bytes)
