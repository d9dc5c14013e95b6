use Rattle.std.proofs.Common.{◌≡◌, ◌++◌}
use Rattle.pd_meaning_thin.specs.Packed.{Continues, packed_number}
use Rattle.pd_meaning_thin.proofs.packing.pack_number.Given as goal

-- the bytes of what is left are still to come
abbrev pub invariant-loop-rest : goal.invariant-loop-rest
invariant-loop-rest l = record {
  packed : l.bytes.items ++ packed_number l.rest ≡ l.initial.bytes.items ++ packed_number l.number;
  kept : Continues l.initial.bytes.items l.bytes.items;
}

abbrev pub decreases-loop-rest : goal.decreases-loop-rest
decreases-loop-rest l = l.rest
