use Rattle.std.proofs.Common.{◌≡◌, ℕ, ◌<◌, ◌++◌, IfSome}
use Rattle.std.specs.List.{AllByRecursion}
use Rattle.pd_image.specs.Device.{OnlyReads}
use Rattle.pd_tree.specs.Cursor.{root_of}
use Rattle.pd_salvage.specs.Cursor.{saved_least, saved_left, saved_number, saved_room}
use Rattle.pd_damaged.specs.Given.{AscendFrom, ids_left}
use Rattle.pd_damaged.proofs.listing.ids_of.Given as goal

-- the ids that were taken and those that are left are those that were left
abbrev pub invariant-tops : goal.invariant-tops
invariant-tops g l = record {
  ids : IfSome (g.D.Device.state l.initial.dev).held (λ image.
      l.ids.items ++ ids_left l.nr (saved_left 8 root_of image l.tops) ≡ ids_left l.nr (saved_left 8 root_of image l.initial.tops));
  ascend : AscendFrom 0 l.ids.items;
  below : AllByRecursion (λ (id : ℕ). id < saved_least l.tops) l.ids.items;
  room : saved_room l.tops ≡ saved_room l.initial.tops;
  kept : OnlyReads (g.D.Device.state l.initial.dev) (g.D.Device.state l.dev);
  faults : (g.D.Device.state l.dev).faults ≡ (g.D.Device.state l.initial.dev).faults;
}

abbrev pub decreases-tops : goal.decreases-tops
decreases-tops g l = saved_number 8 l.tops
