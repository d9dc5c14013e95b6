use Rattle.std.proofs.Common.{refl, arith}
use Rattle.pd_devices.proofs.RowLemmas.{grown_use}
use Rattle.pd_devices.proofs.growing.Growing.use_leaf.Goals as goal

pub returns-clause-grown : goal.returns-clause-grown
returns-clause-grown c leaves d low end from now g above below is =
    grown_use c.args.least c.args.number g above below is refl refl refl (omega (arith, c.requires.few)) c.in_ok-add_head.ensures.added
