use Rattle.std.proofs.Common.{◌+◌, ◌-◌}
use Rattle.pd_smap.specs.Steps.{bits_from}
use Rattle.pd_shrink.specs.Gathered.{Searched, standing}
use Rattle.pd_shrink.proofs.gathering.gather_each.Given as goal

-- the blocks before this one were searched
abbrev pub invariant-loop-e : goal.invariant-loop-e
invariant-loop-e g l =
    Searched l.wanted (bits_from l.base l.fn.bitmap.0) (l.base + l.from) (l.e - l.from)
    (standing (g.A.Device.state l.initial.meta) l.initial.free l.initial.overflow) (standing (g.A.Device.state l.meta) l.free l.overflow)
