use Rattle.std.proofs.Common.{◌≡◌, ◌+◌, ◌≤◌, IfSome}
use Rattle.pd_image.specs.Device.{OnlyReads}
use Rattle.pd_tree.specs.Cursor.{cursor_items, cursor_number}
use Rattle.pd_tree.specs.Cursor.{root_of}
use Rattle.pd_measures.specs.Measured.{below_root}
use Rattle.pd_measures.specs.Counts.{are_one, details_of, lists_reads}
use Rattle.pd_measures.proofs.comparing.compare.Given as goal

-- what is left of both is one list exactly where all was
abbrev pub invariant-entries : goal.invariant-entries
invariant-entries g l = record {
  one : IfSome (g.D.Device.state l.initial.dev).held (λ image.
      are_one (below_root l.fn.notes) (cursor_items 8 root_of image l.initial.cursors.tops) (cursor_items 24 details_of image l.initial.cursors.details)
      ≡ are_one (below_root l.fn.notes) (cursor_items 8 root_of image l.cursors.tops) (cursor_items 24 details_of image l.cursors.details));
  reads : IfSome (g.D.Device.state l.initial.dev).held (λ image.
      (g.D.Device.state l.dev).reads + lists_reads image l.cursors ≤ (g.D.Device.state l.initial.dev).reads + lists_reads image l.initial.cursors);
  kept : OnlyReads (g.D.Device.state l.initial.dev) (g.D.Device.state l.dev);
  faults : (g.D.Device.state l.dev).faults ≡ (g.D.Device.state l.initial.dev).faults;
}

abbrev pub decreases-entries : goal.decreases-entries
decreases-entries g l = cursor_number 8 l.cursors.tops
