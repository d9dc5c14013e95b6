use Rattle.std.proofs.Common.{arith}
use Rattle.pd_check.proofs.array_marks.ArrayMemoryWatch.see.Goals as goal

pub layout-requires : goal.layout-requires
layout-requires g c = omega (arith, c.requires.role, c.requires.room.roles, g.met.F.Format.roles c.args._format.now)

pub set-requires : goal.set-requires
set-requires g c =
    let places = c.requires.room.places (g.met.F.Format.lawful c.args._format.now).few_blocks in
    omega (arith, c.requires.within, places)
