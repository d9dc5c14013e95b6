use Rattle.std.proofs.Common.{◌≡◌, IfSome}
use Rattle.pd_image.specs.Device.{OnlyReads}
use Rattle.pd_tree.specs.Cursor.{root_of}
use Rattle.pd_salvage.specs.Cursor.{saved_left, saved_number, saved_room}
use Rattle.pd_salvage_cache.proofs.FullerLemmas.{end_from}
use Rattle.pd_salvage_cache.proofs.candidates.end_of.Given as goal

-- the keys that were taken and those that are left end where all do
abbrev pub invariant-loop-key : goal.invariant-loop-key
invariant-loop-key g l = record {
  end : IfSome (g.D.Device.state l.initial.dev).held (λ image. end_from l.end (saved_left 8 root_of image l.cursor) ≡ end_from 0 (saved_left 8 root_of image l.initial.cursor));
  room : saved_room l.cursor ≡ saved_room l.initial.cursor;
  kept : OnlyReads (g.D.Device.state l.initial.dev) (g.D.Device.state l.dev);
  faults : (g.D.Device.state l.dev).faults ≡ (g.D.Device.state l.initial.dev).faults;
}

abbrev pub decreases-loop-key : goal.decreases-loop-key
decreases-loop-key g l = saved_number 8 l.cursor
