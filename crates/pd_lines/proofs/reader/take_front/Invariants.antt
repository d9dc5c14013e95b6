use Rattle.std.proofs.Common.{◌≡◌, ◌-◌, length}
use Rattle.pd_lines.specs.Front.{Moves}
use Rattle.pd_image.specs.Source.{KeepsSource}
use Rattle.pd_lines.proofs.reader.take_front.Given as goal

abbrev pub invariant-filling : goal.invariant-filling
invariant-filling g l =
    Moves l.initial.buffer l.buffer (g.S.Source.state l.initial.source).left (g.S.Source.state l.source).left
    × (KeepsSource (g.S.Source.state l.initial.source) (g.S.Source.state l.source)
    × ((g.S.Source.state l.source).faults ≡ (g.S.Source.state l.initial.source).faults))

abbrev pub decreases-filling : goal.decreases-filling
decreases-filling g l = 161 - length l.buffer
