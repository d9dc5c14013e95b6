use Rattle.std.proofs.Common.{refl}
use Rattle.pd_meaning_thin.specs.Packed.{runs_from}
use Rattle.pd_salvage_shapes.proofs.MetPieces.{takes_all, takes_next, takes_none}
use Rattle.pd_salvage_shapes.proofs.pieces.Piecing.take_runs.Goals as goal

pub loop-run-init : goal.loop-run-init
loop-run-init c = record {
  takes = takes_none c.args.runs.now c.args.self.now.runs c.args.self.now.joining _ c.first-place.ensures;
  are = rw c.first-place.ensures c.requires;
  pieces = refl;
  first = refl;
}

pub loop-run-preserved : goal.loop-run-preserved
loop-run-preserved c =
    let runs = c.args.runs.now in
    let old = c.args.self.now in
    let now = c.loop-run.self in
    let are = rw c.in-Some.ensures at c.loop-run.invariant.are in
    record {
      takes =
          takes_next runs old.runs old.joining (runs_from runs c.loop-run.place) (runs_from runs c.next.new.place) c.in-Some.run' now.runs c.take.new.runs now.joining c.take.new.self
          c.loop-run.invariant.takes c.in-Some.ensures c.in_ok-take.ensures;
      are = are.1;
      pieces = c.loop-run.invariant.pieces;
      first = c.loop-run.invariant.first;
    }

pub returns-clause-takes : goal.returns-clause-takes
returns-clause-takes c =
    takes_all c.args.runs.now c.args.self.now.runs c.args.self.now.joining (runs_from c.args.runs.now c.loop-run.place) c.loop-run.self.runs c.loop-run.self.joining c.loop-run.invariant.takes
    c.in_default.ensures.0
