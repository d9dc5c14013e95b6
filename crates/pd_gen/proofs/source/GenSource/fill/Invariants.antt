use Rattle.std.proofs.Common.{◌≡◌, ◌≤◌, ◌-◌, ◌++◌, length, take}
use Rattle.pd_gen.specs.GenSource.{text_left}
use Rattle.pd_gen.proofs.source.GenSource.fill.Given as goal

abbrev pub invariant-loop-filled : goal.invariant-loop-filled
invariant-loop-filled l =
    (l.filled ≤ length l.into) × ((take l.filled l.into ++ text_left l.self ≡ text_left l.initial.self) × (l.self.attached ≡ l.initial.self.attached))

abbrev pub decreases-loop-filled : goal.decreases-loop-filled
decreases-loop-filled l = length l.initial.into - l.filled
