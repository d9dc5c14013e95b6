use Rattle.std.proofs.Common.{◌≡◌, fold, IfSome}
use Rattle.pd_image.specs.Device.{OnlyReads}
use Rattle.pd_tree.specs.Cursor.{root_of}
use Rattle.pd_salvage.specs.Cursor.{saved_left, saved_number, saved_room}
use Rattle.pd_damaged.specs.Known.{AreRight, KnowsTheSame, data_blocks_of, meta_blocks_of}
use Rattle.pd_damaged.specs.Top.{device_counted, no_devices}
use Rattle.pd_damaged.proofs.top.add_devices.Given as goal

-- the devices that were counted and those that are left are those that were left
abbrev pub invariant-tops : goal.invariant-tops
invariant-tops g l = record {
  sum : IfSome (g.D.Device.state l.initial.dev).held (λ image. AreRight image l.initial.remains
      → fold (device_counted (meta_blocks_of l.initial.remains) (data_blocks_of l.initial.remains) image) l.sum (saved_left 8 root_of image l.tops)
      ≡ fold (device_counted (meta_blocks_of l.initial.remains) (data_blocks_of l.initial.remains) image) no_devices (saved_left 8 root_of image l.initial.tops));
  same : KnowsTheSame l.initial.remains l.remains;
  room : saved_room l.tops ≡ saved_room l.initial.tops;
  kept : OnlyReads (g.D.Device.state l.initial.dev) (g.D.Device.state l.dev);
  faults : (g.D.Device.state l.dev).faults ≡ (g.D.Device.state l.initial.dev).faults;
}

abbrev pub decreases-tops : goal.decreases-tops
decreases-tops g l = saved_number 8 l.tops
