use Rattle.std.proofs.Common.{◌≡◌, drop}
use Rattle.pd_meaning_thin.specs.Packed.{number_at}
use Rattle.pd_meaning_thin.proofs.NumberLemmas.{number_with}
use Rattle.pd_meaning_thin.proofs.packing.unpack_number.Given as goal

-- what was read, and what is left, are the number
abbrev pub invariant-loop-i : goal.invariant-loop-i
invariant-loop-i l = number_at (drop l.at l.bytes) ≡ number_with l.bytes l.i l.value l.scale
