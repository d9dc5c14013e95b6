use Rattle.std.proofs.Common.{refl}
use Rattle.pd_query.proofs.QueryLemmas.{lost_as, puts_none}
use Rattle.pd_tools.specs.declared.ending.Stop.TheVariants.{Stream}
use Rattle.pd_tools.proofs.query.put_answer.Goals as goal

pub returns-in-Err-clause-text : goal.returns-in-Err-clause-text
returns-in-Err-clause-text g c = puts_none (g.A.Device.state c.args.input.now).held (g.Q.Query.answer c.args.query.now) c.stop_of.result refl (λ image none. refl)

pub returns-then-is_err-clause-text : goal.returns-then-is_err-clause-text
returns-then-is_err-clause-text g c =
    puts_none (g.A.Device.state c.args.input.now).held (g.Q.Query.answer c.args.query.now) Stream c.attach.ensures.attached.written (λ image none. refl)

pub returns-in-Ok-put-clause-text : goal.returns-in-Ok-put-clause-text
returns-in-Ok-put-clause-text g c =
    let puts = rw (c.in-Ok.ensures.kept.held, c.attach.ensures.attached.written) at c.in-Ok-put.ensures.text in
    record { text = puts.text; told = puts.told; whole = puts.whole; front = puts.front }

pub returns-in-Err-put-clause-text : goal.returns-in-Err-put-clause-text
returns-in-Err-put-clause-text g c =
    lost_as c.in-Err-put.fault c.stop_of-in-Err-put.result (rw (c.in-Ok.ensures.kept.held, c.attach.ensures.attached.written) at c.in-Err-put.ensures.text)
