use Rattle.std.proofs.Common.{◌+◌, ◌-◌}
use Rattle.pd_smap.specs.Overflow.{comparison_state}
use Rattle.pd_smap.specs.Steps.{ComparesRange, bits_from}
use Rattle.pd_smap.proofs.bitmaps.compare_each.Given as goal

-- what is before was compared
abbrev pub invariant-loop-e : goal.invariant-loop-e
invariant-loop-e g l =
    ComparesRange (record { space = g.R.References.space l.fn.refs; refs = g.R.References.refs l.fn.refs; bits = bits_from l.base l.fn.bitmap.0 }) (l.base + l.from) (l.e - l.from)
    (comparison_state (g.D.Device.state l.initial.dev) l.initial.overflow l.initial.report) (comparison_state (g.D.Device.state l.dev) l.overflow l.report)
