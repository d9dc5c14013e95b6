use Rattle.std.proofs.Common.{◌≡◌, fold, IfSome}
use Rattle.pd_image.specs.Device.{OnlyReads}
use Rattle.pd_meaning_thin.specs.Runs.{details_of}
use Rattle.pd_salvage.specs.Cursor.{saved_left, saved_number, saved_room}
use Rattle.pd_damaged.specs.Given.{given_counted, none_given}
use Rattle.pd_damaged.proofs.given.given_by.Given as goal

-- what was counted and what is left are what was left
abbrev pub invariant-entries : goal.invariant-entries
invariant-entries g l = record {
  given : IfSome (g.D.Device.state l.initial.dev).held (λ image.
      fold (given_counted l.ids) l.given (saved_left 24 details_of image l.entries)
      ≡ fold (given_counted l.ids) (none_given l.root) (saved_left 24 details_of image l.initial.entries));
  root : l.given.details ≡ l.root;
  room : saved_room l.entries ≡ saved_room l.initial.entries;
  kept : OnlyReads (g.D.Device.state l.initial.dev) (g.D.Device.state l.dev);
  faults : (g.D.Device.state l.dev).faults ≡ (g.D.Device.state l.initial.dev).faults;
}

abbrev pub decreases-entries : goal.decreases-entries
decreases-entries g l = saved_number 24 l.entries
