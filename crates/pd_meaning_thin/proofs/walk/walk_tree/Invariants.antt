use Rattle.std.proofs.Common.{◌≡◌, ℕ, ◌+◌, ◌≤◌, List, length, IfSome}
use Rattle.pd_image.specs.Device.{OnlyReads}
use Rattle.pd_meaning_thin.specs.Walk.{IsProperTree}
use Rattle.pd_meaning_thin.specs.Marks.{AreMarked, reads_left}
use Rattle.pd_meaning_thin.specs.Walk.{AreProper, walk_number}
use Rattle.pd_meaning_thin.proofs.WalkLemmas.{IsWalking}
use Rattle.pd_meaning_thin.proofs.walk.walk_tree.Given as goal

-- the marks tell how often a node was met, by what still waits
abbrev pub invariant-loop-b : goal.invariant-loop-b
invariant-loop-b g l = record {
  walking : IfSome (g.D.Device.state l.initial.dev).held (λ image. (before : List ℕ) → AreProper image l.initial.marks before → IsProperTree image (length l.initial.marks) l.root
      → AreMarked image before l.initial.marks → IsWalking image before l.root l.marks l.waiting.items);
  same_number : length l.marks ≡ length l.initial.marks;
  reads : (g.D.Device.state l.dev).reads + reads_left l.marks ≤ (g.D.Device.state l.initial.dev).reads + reads_left l.initial.marks;
  kept : OnlyReads (g.D.Device.state l.initial.dev) (g.D.Device.state l.dev);
  faults : (g.D.Device.state l.dev).faults ≡ (g.D.Device.state l.initial.dev).faults;
}

abbrev pub decreases-loop-b : goal.decreases-loop-b
decreases-loop-b g l = walk_number l.marks l.waiting.items
