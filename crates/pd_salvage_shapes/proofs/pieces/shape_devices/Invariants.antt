use Rattle.std.proofs.Common.{◌≡◌, ℕ, ◌≤◌, List, get_or, length, take}
use Rattle.pd_salvage_shapes.specs.declared.visiting.Seen.{Seen}
use Rattle.pd_salvage_shapes.specs.Once.{KeepsOthers, all_met}
use Rattle.pd_salvage_shapes.specs.SeenShape.{AreShaped, AreSized}
use Rattle.pd_salvage_shapes.specs.Pieces.{AreNumbers, IsIdle}
use Rattle.pd_salvage_shapes.proofs.pieces.shape_devices.Given as goal

-- the devices before this one have their pieces, and of the others there is still all that they met
abbrev pub invariant-loop-i : goal.invariant-loop-i
invariant-loop-i l = record {
  shaped : (ones : List ℕ) → AreNumbers ones l.numbers → AreShaped ones l.fn.notes (take l.i l.tops) (take l.i l.fn.seen) l.shaped;
  idle : IsIdle l.shaped.piecing;
  rest : (k : ℕ) (d : Seen) → l.i ≤ k → get_or l.seen k d ≡ get_or l.fn.seen k d;
  others : KeepsOthers l.times.items (all_met (take l.i l.fn.seen)) l.fn.notes l.notes;
  sized : AreSized (length l.numbers) l.notes;
}
