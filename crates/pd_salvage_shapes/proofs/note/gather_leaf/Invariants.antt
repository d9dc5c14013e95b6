use Rattle.std.proofs.Common.{ℕ, ◌^◌, ◌<◌, map}
use Rattle.std.specs.List.{range_with_len}
use Rattle.pd_kinds.specs.Node.{key_at}
use Rattle.pd_salvage_shapes.specs.Note.{IsGathered, saved_in}
use Rattle.pd_salvage_shapes.proofs.NoteLemmas.{entry_at}
use Rattle.pd_salvage_shapes.proofs.note.gather_leaf.Given as goal

-- the entries before this one were gathered
abbrev pub invariant-loop-i : goal.invariant-loop-i
invariant-loop-i l = record {
  gathered : IsGathered l.runs l.gathering (saved_in l.blocks l.range (map (entry_at l.block.0) (range_with_len 0 l.i)));
  fits : (k : ℕ) → k < l.i → key_at l.block.0 k < 2 ^ 64;
}
