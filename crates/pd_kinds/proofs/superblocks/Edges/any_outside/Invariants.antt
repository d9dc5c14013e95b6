use Rattle.std.proofs.Common.{◌≡◌, take}
use Rattle.std.specs.List.{list_any}
use Rattle.pd_kinds.specs.Graph.{Edge, is_outside}
use Rattle.pd_kinds.proofs.superblocks.Edges.any_outside.Given as goal

abbrev pub invariant-loop-i : goal.invariant-loop-i
invariant-loop-i l = l.outside ≡ list_any (λ (e : Edge). is_outside l.nr e.block) (take l.i l.self)
