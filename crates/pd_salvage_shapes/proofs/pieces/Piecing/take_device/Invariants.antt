use Rattle.std.proofs.Common.{ℕ, List, length, take}
use Rattle.pd_salvage_shapes.specs.Once.{KeepsOthers}
use Rattle.pd_salvage_shapes.specs.Pieces.{AreNumbers, IsPiecing}
use Rattle.pd_salvage_shapes.specs.SeenShape.{AreSized}
use Rattle.pd_salvage_shapes.specs.Visiting.{mets_of}
use Rattle.pd_salvage_shapes.proofs.pieces.Piecing.take_device.Given as goal

-- the notes before this one were taken, and those that are met once are forgotten
abbrev pub invariant-loop-k : goal.invariant-loop-k
invariant-loop-k l = record {
  piecing : (ones : List ℕ) → AreNumbers ones l.numbers → IsPiecing ones l.initial.self.pieces.items l.initial.self.runs l.self (mets_of l.initial.notes (take l.k-index l.met));
  others : KeepsOthers l.times (take l.k-index l.met) l.initial.notes l.notes;
  sized : AreSized (length l.numbers) l.notes;
}
