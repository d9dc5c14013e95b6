use Rattle.std.proofs.Common.{sym, ◌∙◌, arith}
use Rattle.pd_meaning_thin.specs.Packed.{runs_from}
use Rattle.pd_shrink.specs.Moves.{moves_in}
use Rattle.pd_shrink.proofs.MovingLemmas.{met_behind, none_behind}
use Rattle.pd_shrink.proofs.MovingLemmas.{takes_met, takes_no_run}
use Rattle.pd_shrink.proofs.moving.move_runs.Goals as goal
use Rattle.pd_shrink.proofs.moving.move_runs.Goals.{in-Some+in_ok-move_run, in_default}

pub loop-preserved : goal.loop-preserved
loop-preserved c =
    let all = runs_from c.args.all.now c.args.place.now in
    let i = c.loop.counter in
    let before = c.loop.invariant in
    elim c.match-next.branch [
      | in-Some+in_ok-move_run w ↦
          let met = sym before.behind ∙ w.in-Some.ensures in
          rw (w.joining-is, w.runs-is)
          (record {
            most = omega (arith, c.loop-test.true);
            joining =
                takes_met (moves_in c.args.moves.now) all c.args.runs.now c.loop.runs i c.loop.joining before.joining w.in-Some.run' (runs_from c.args.all.now c.next.new.place)
                w.move_run.new.runs w.move_run.new.joining met w.in_ok-move_run.ensures;
            behind = met_behind all i w.in-Some.run' (runs_from c.args.all.now c.next.new.place) met;
          })
      | in_default w ↦
          let none = sym before.behind ∙ w.in_default.ensures.0 in
          rw (w.joining-is, w.runs-is)
          (record {
            most = omega (arith, c.loop-test.true);
            joining = takes_no_run (moves_in c.args.moves.now) all c.args.runs.now c.loop.runs i c.loop.joining before.joining none;
            behind = rw w.in_default.ensures.1 (w.in_default.ensures.0 ∙ none_behind all i none);
          })
    ]
