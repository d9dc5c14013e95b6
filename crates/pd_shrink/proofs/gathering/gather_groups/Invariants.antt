use Rattle.std.proofs.Common.{◌*◌}
use Rattle.pd_smap.specs.Steps.{bits_from}
use Rattle.pd_shrink.specs.Gathered.{Searched, standing}
use Rattle.pd_shrink.proofs.gathering.gather_groups.Given as goal

-- the groups before this one were searched
abbrev pub invariant-loop-g : goal.invariant-loop-g
invariant-loop-g g l =
    Searched l.wanted (bits_from l.base l.fn.bitmap.0) l.base (32 * l.g)
    (standing (g.A.Device.state l.initial.meta) l.initial.free l.initial.overflow) (standing (g.A.Device.state l.meta) l.free l.overflow)
