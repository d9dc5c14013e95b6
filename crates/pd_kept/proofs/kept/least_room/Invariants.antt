use Rattle.std.proofs.Common.{ℕ, ◌+◌, ◌-◌, ◌^◌, ◌<◌}
use Rattle.pd_kinds.specs.Bitmap.{bitmaps_for}
use Rattle.pd_kept.proofs.kept.least_room.Given as goal

-- on fewer blocks there is no room
abbrev pub invariant-loop-need : goal.invariant-loop-need
invariant-loop-need l = (n : ℕ) → n < l.room → n < l.base + bitmaps_for n

abbrev pub decreases-loop-need : goal.decreases-loop-need
decreases-loop-need l = 2 ^ 64 - l.room
