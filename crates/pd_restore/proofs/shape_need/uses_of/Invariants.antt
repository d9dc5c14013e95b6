use Rattle.std.proofs.Common.{◌≡◌, take}
use Rattle.std.specs.List.{flat_map}
use Rattle.pd_restore.specs.ShapeNeed.{HasCountedThrice}
use Rattle.pd_restore.specs.ShapeNeed.{uses_of_saved}
use Rattle.pd_restore.proofs.shape_need.uses_of.Given as goal

abbrev pub invariant-loop-piece : goal.invariant-loop-piece
invariant-loop-piece l = record {
  size : l.counted.size ≡ l.leaves;
  listed : HasCountedThrice l.counted (flat_map uses_of_saved (take l.piece-index l.pieces));
}
