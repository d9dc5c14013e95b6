use Rattle.std.proofs.Common.{◌≡◌, ℕ, IfSome}
use Rattle.pd_image.specs.Device.{OnlyReads}
use Rattle.pd_laid.specs.FoundRoots.{lost_graph}
use Rattle.pd_scan.specs.Numbers.{AreDetailsNumbered, AreNumbered, AreTold}
use Rattle.pd_scan.proofs.numbering.number_details.Given as goal

-- the trees before this one are numbered
abbrev pub invariant-loop-b : goal.invariant-loop-b
invariant-loop-b g l = record {
  numbered : IfSome (g.D.Device.state l.initial.dev).held (λ image. (data_blocks : ℕ) → AreTold (lost_graph image data_blocks) image l.initial.trees
      → AreNumbered (lost_graph image data_blocks) image l.trees.details_measures l.b l.numbers);
  measures : AreDetailsNumbered l.initial.trees l.trees;
  kept : OnlyReads (g.D.Device.state l.initial.dev) (g.D.Device.state l.dev);
  faults : (g.D.Device.state l.dev).faults ≡ (g.D.Device.state l.initial.dev).faults;
}
