use Rattle.std.proofs.Common.{◌≡◌, ◌≤◌, ◌-◌, length, take}
use Rattle.std.specs.List.{fold}
use Rattle.pd_kinds.specs.Field.{crc_byte}
use Rattle.pd_crc.proofs.sealing.by_words.Given as goal

abbrev pub invariant-loop-at : goal.invariant-loop-at
invariant-loop-at l = record { within : l.at ≤ length l.bytes; so_far : l.crc ≡ fold crc_byte l.start (take l.at l.bytes) }

abbrev pub decreases-loop-at : goal.decreases-loop-at
decreases-loop-at l = length l.bytes - l.at
