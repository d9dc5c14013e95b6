use Rattle.std.proofs.Common.{◌≡◌}
use Rattle.pd_restore.specs.ShapeLines.{device_lines}
use Rattle.pd_restore.proofs.shape_lines.DeviceLines.next.Given as goal

abbrev pub invariant-pieces : goal.invariant-pieces
invariant-pieces l = device_lines l.initial.self l.saved ≡ device_lines l.self l.saved

abbrev pub decreases-pieces : goal.decreases-pieces
decreases-pieces l = l.self.pieces.left
