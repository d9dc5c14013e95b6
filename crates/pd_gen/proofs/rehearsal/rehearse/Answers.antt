use Rattle.std.proofs.lemmas.Result.{err_from_is_err_and}
use Rattle.pd_gen.proofs.Rehearsing.{rehearses, restores_not, unreported}
use Rattle.pd_gen.proofs.rehearsal.rehearse.Goals as goal

pub returns-clause-rehearsed : goal.returns-clause-rehearsed
returns-clause-rehearsed g c =
    rehearses c.args.number c.requires.few c.check_and_count.result (g.D.Device.state c.args.dev.now) (g.D.Device.state c.restore_text.new.dev) (g.D.Device.state c.check_and_count.new.dev)
    (g.met.D.Device.measured c.args.dev.now) c.in_ok-restore_text.ensures.restored c.check_and_count.ensures.kept c.check_and_count.ensures.counted c.check_and_count.ensures.faults

pub returns-in_err-restore_text-clause-rehearsed : goal.returns-in_err-restore_text-clause-rehearsed
returns-in_err-restore_text-clause-rehearsed g c =
    let p = err_from_is_err_and c.from_residual.result c.from_residual.ensures.1 in
    let fault = c.in_err-restore_text.field-0.0 in
    let e = c.in_err-restore_text.ensures in
    rw (p.1, p.2)
    (record {
      restores = restores_not c.args.number fault (g.D.Device.state c.args.dev.now) (g.D.Device.state c.restore_text.new.dev) e.restored;
      numbers = λ image held faulty. e.unchecked faulty;
      reported = unreported fault e.unchecked;
    })
