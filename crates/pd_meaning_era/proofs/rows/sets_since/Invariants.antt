use Rattle.std.proofs.Common.{◌≡◌, ◌++◌, filter, IfSome}
use Rattle.pd_image.specs.Device.{OnlyReads}
use Rattle.pd_tree.specs.Cursor.{cursor_items, cursor_number}
use Rattle.pd_meaning_era.specs.Eras.{set_of, sets_below}
use Rattle.pd_meaning_era.specs.Notes.{is_set_from}
use Rattle.pd_meaning_era.proofs.rows.sets_since.Given as goal

-- those that were taken, and then those that are left
abbrev pub invariant-loop-sets : goal.invariant-loop-sets
invariant-loop-sets g l = record {
  all : IfSome (g.D.Device.state l.initial.dev).held (λ image. filter (is_set_from l.least) (sets_below image l.root) ≡ l.sets.items ++ filter (is_set_from l.least) (cursor_items 12 set_of image l.left));
  kept : OnlyReads (g.D.Device.state l.initial.dev) (g.D.Device.state l.dev);
  faults : (g.D.Device.state l.dev).faults ≡ (g.D.Device.state l.initial.dev).faults;
}

abbrev pub decreases-loop-sets : goal.decreases-loop-sets
decreases-loop-sets g l = cursor_number 12 l.left
