use Rattle.std.proofs.Common.{◌≡◌, length}
use Rattle.pd_meaning_thin.specs.Packed.{runs_from}
use Rattle.pd_salvage_shapes.specs.Pieces.{AreRuns}
use Rattle.pd_salvage_shapes.proofs.MetPieces.{TakesFirst}
use Rattle.pd_salvage_shapes.proofs.pieces.Piecing.take_runs.Given as goal

-- the runs before those that are left were taken
abbrev pub invariant-loop-run : goal.invariant-loop-run
invariant-loop-run l = record {
  takes : TakesFirst l.runs (runs_from l.runs l.place) l.initial.self.runs l.self.runs l.initial.self.joining l.self.joining;
  are : AreRuns (runs_from l.runs l.place);
  pieces : l.self.pieces ≡ l.initial.self.pieces;
  first : l.self.first ≡ l.initial.self.first;
}

abbrev pub decreases-loop-run : goal.decreases-loop-run
decreases-loop-run l = length (runs_from l.runs l.place)
