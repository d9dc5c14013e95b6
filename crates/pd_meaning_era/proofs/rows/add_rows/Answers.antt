use Rattle.std.proofs.Common.{refl, arith}
use Rattle.pd_kinds.proofs.ResultLemmas.{if_maps}
use Rattle.pd_meaning_era.proofs.SetLemmas.{adds_set}
use Rattle.pd_meaning_era.proofs.rows.add_rows.Goals as goal

pub returns-clause-adds : goal.returns-clause-adds
returns-clause-adds g c =
    let set = c.args.set in
    if_maps (g.D.Device.state c.args.dev.now).held _ _ (λ image goes knows.
    adds_set image c.args.blocks set c.args.era c.min-end.result 64 c.in_ok-_next._next c.args.walk.now c.make_ready.new.walk c.add_each.new.walk refl (omega arith) c.in_ok-make_ready.ensures.era c.in_ok-make_ready.ensures.rows
    (goes (c.in_ok-make_ready.ensures.knows image knows))) c.in_ok-_next.ensures.goes
