use Rattle.pd_salvage_shapes.specs.Pieces.{IsSharing}
use Rattle.pd_salvage_shapes.proofs.shape.share.Given as goal

-- the leaves of the blocks before this one were taken
abbrev pub invariant-loop-b : goal.invariant-loop-b
invariant-loop-b l = IsSharing l.uses l.places l.notes l.shared l.b
