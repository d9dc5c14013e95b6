use Rattle.std.proofs.Common.{◌≡◌, ◌+◌, ◌≤◌, [], length, IfSome}
use Rattle.pd_image.specs.Device.{OnlyReads}
use Rattle.pd_tree.specs.Cursor.{cursor_items, cursor_nodes, cursor_number}
use Rattle.pd_tree.specs.Cursor.{root_of}
use Rattle.pd_meaning_thin.specs.Walk.{roots_of}
use Rattle.pd_meaning_thin.specs.Marks.{reads_left}
use Rattle.pd_meaning_thin.proofs.WalkLemmas.{AreWalkedTo}
use Rattle.pd_meaning_thin.proofs.walk.walk_devices.Given as goal

-- the trees of the roots that were given were walked
abbrev pub invariant-loop-waiting : goal.invariant-loop-waiting
invariant-loop-waiting g l = record {
  walked : IfSome (g.D.Device.state l.initial.dev).held (λ image. AreWalkedTo image (roots_of (cursor_items 8 root_of image l.initial.devices)) (roots_of (cursor_items 8 root_of image l.devices)) l.initial.marks l.marks);
  none : l.waiting.items ≡ [];
  same_number : length l.marks ≡ length l.initial.marks;
  reads : IfSome (g.D.Device.state l.initial.dev).held (λ image. (g.D.Device.state l.dev).reads + length (cursor_nodes 8 image l.devices) + reads_left l.marks
      ≤ (g.D.Device.state l.initial.dev).reads + length (cursor_nodes 8 image l.initial.devices) + reads_left l.initial.marks);
  kept : OnlyReads (g.D.Device.state l.initial.dev) (g.D.Device.state l.dev);
  faults : (g.D.Device.state l.dev).faults ≡ (g.D.Device.state l.initial.dev).faults;
}

abbrev pub decreases-loop-waiting : goal.decreases-loop-waiting
decreases-loop-waiting g l = cursor_number 8 l.devices
