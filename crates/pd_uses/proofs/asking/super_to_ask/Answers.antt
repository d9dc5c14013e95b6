use Rattle.std.proofs.Common.{◌≤◌, length, arith}
use Rattle.pd_query.proofs.QueryLemmas.{one_told}
use Rattle.pd_uses.proofs.asking.super_to_ask.Goals as goal

pub returns-in-Ok-clause-fields : goal.returns-in-Ok-clause-fields
returns-in-Ok-clause-fields g c =
    one_told (g.D.Device.state c.args.dev.now).held
    (λ image is none. let root = (c.rows_are_the_devices.ensures image none).mapping_root in let some : 1 ≤ length image = omega arith in is some) c.in-Ok.ensures.fields
