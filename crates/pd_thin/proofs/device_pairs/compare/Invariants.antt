use Rattle.std.proofs.Common.{◌≡◌, ◌+◌, ◌≤◌, IfSome}
use Rattle.pd_image.specs.Device.{OnlyReads}
use Rattle.pd_graph.specs.Audit.{KeepsButRules}
use Rattle.pd_tree.specs.Cursor.{root_of}
use Rattle.pd_thin.specs.DevicePairs.{peeked_items}
use Rattle.pd_thin.specs.DevicePairs.{cursors_number, cursors_reads}
use Rattle.pd_thin.specs.DevicePairs.{details_of}
use Rattle.pd_thin.proofs.TreePairLemmas.{Way}
use Rattle.pd_thin.proofs.device_pairs.compare.Given as goal

-- what was charged, and what is left to be charged, is all
abbrev pub invariant-loop-both : goal.invariant-loop-both
invariant-loop-both g l = record {
  way : Way (g.D.Device.state l.initial.dev).held l.initial.audit l.audit l.initial.cursors.tops.first l.initial.cursors.details.first l.cursors.tops.first l.cursors.details.first
      (λ image. peeked_items 8 root_of image l.initial.cursors.tops) (λ image. peeked_items 8 root_of image l.cursors.tops)
      (λ image. peeked_items 24 details_of image l.initial.cursors.details) (λ image. peeked_items 24 details_of image l.cursors.details) l.same;
  reads : IfSome (g.D.Device.state l.initial.dev).held (λ image.
      (g.D.Device.state l.dev).reads + cursors_reads image l.cursors ≤ (g.D.Device.state l.initial.dev).reads + cursors_reads image l.initial.cursors);
  rules : KeepsButRules l.initial.audit l.audit;
  kept : OnlyReads (g.D.Device.state l.initial.dev) (g.D.Device.state l.dev);
  faults : (g.D.Device.state l.dev).faults ≡ (g.D.Device.state l.initial.dev).faults;
}

abbrev pub decreases-loop-both : goal.decreases-loop-both
decreases-loop-both g l = cursors_number l.cursors
