use Rattle.std.proofs.Common.{◌≡◌, fold, IfSome}
use Rattle.pd_image.specs.Device.{OnlyReads}
use Rattle.pd_meaning_thin.specs.Runs.{block_time_of}
use Rattle.pd_salvage.specs.Cursor.{saved_left, saved_number, saved_room}
use Rattle.pd_damaged.specs.Kept.{counted, no_kept}
use Rattle.pd_damaged.proofs.kept.kept_of_cursor.Given as goal

-- what was counted and what is left are what was left
abbrev pub invariant-mappings : goal.invariant-mappings
invariant-mappings g l = record {
  measure : IfSome (g.D.Device.state l.initial.dev).held (λ image.
      fold (counted l.data_blocks) l.sum (saved_left 8 block_time_of image l.mappings)
      ≡ fold (counted l.data_blocks) no_kept (saved_left 8 block_time_of image l.initial.mappings));
  room : saved_room l.mappings ≡ saved_room l.initial.mappings;
  kept : OnlyReads (g.D.Device.state l.initial.dev) (g.D.Device.state l.dev);
  faults : (g.D.Device.state l.dev).faults ≡ (g.D.Device.state l.initial.dev).faults;
}

abbrev pub decreases-mappings : goal.decreases-mappings
decreases-mappings g l = saved_number 8 l.mappings
