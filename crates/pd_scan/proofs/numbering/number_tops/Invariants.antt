use Rattle.std.proofs.Common.{◌≡◌, ℕ, IfSome}
use Rattle.pd_graph.specs.Notes.{size_of}
use Rattle.pd_image.specs.Device.{OnlyReads}
use Rattle.pd_laid.specs.FoundRoots.{lost_graph}
use Rattle.pd_scan.specs.Numbers.{AreTold, AreTopsChanged, AreTopsNumbered}
use Rattle.pd_scan.proofs.numbering.number_tops.Given as goal

-- the mapping trees before this one have their numbers
abbrev pub invariant-loop-top : goal.invariant-loop-top
invariant-loop-top g l = record {
  numbered : IfSome (g.D.Device.state l.initial.dev).held (λ image. (data_blocks : ℕ) → AreTold (lost_graph image data_blocks) image l.initial.trees
      → AreTopsNumbered (lost_graph image data_blocks) image l.fn.numbers (size_of l.initial.trees.tops) l.top l.trees.top_measures);
  measures : AreTopsChanged l.initial.trees l.trees;
  kept : OnlyReads (g.D.Device.state l.initial.dev) (g.D.Device.state l.dev);
  faults : (g.D.Device.state l.dev).faults ≡ (g.D.Device.state l.initial.dev).faults;
}
