use Rattle.std.proofs.Common.{refl}
use Rattle.pd_answers.specs.Promises.{check_and_clear}
use Rattle.pd_tools.proofs.Answered.{answered_silent, answered_stopped}
use Rattle.pd_tools.proofs.clear.run_clearing_check.Goals as goal

pub returns-then-passed : goal.returns-then-passed
returns-then-passed g c others fresh was =
    answered_silent (check_and_clear c.args.flagged c.args.passing c.args.image.now) _ _ _ fresh was 0 (rw c.if-passed.true at (c.in-Ok.ensures others (g.E.Sink.state c.args.notes.now) fresh.input.1)) refl

pub returns-else-passed : goal.returns-else-passed
returns-else-passed g c others fresh was =
    answered_silent (check_and_clear c.args.flagged c.args.passing c.args.image.now) _ _ _ fresh was 1 (rw c.if-passed.false at (c.in-Ok.ensures others (g.E.Sink.state c.args.notes.now) fresh.input.1)) refl

pub returns-in-Err : goal.returns-in-Err
returns-in-Err g c others fresh was =
    answered_stopped (check_and_clear c.args.flagged c.args.passing c.args.image.now) _ _ _ fresh was c.in-Err.stop _ (c.in-Err.ensures others (g.E.Sink.state c.put.new.notes) fresh.input.1) c.put.ensures
