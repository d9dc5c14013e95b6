use Rattle.std.proofs.Common.{refl}
use Rattle.pd_count.proofs.WaitingLemmas.{on_err, same_items, waits}
use Rattle.pd_count.proofs.waiting.WaitingPlaces.wait.Goals as goal

pub returns-in_err-push-clause-err : goal.returns-in_err-push-clause-err
returns-in_err-push-clause-err c = on_err c.from_residual.result (same_items c.args.self.now _ refl c.in_err-push.ensures.items)

pub returns-clause-put : goal.returns-clause-put
returns-clause-put c = waits c.args.self.now _ c.args.at refl c.in_ok-push.ensures.items
