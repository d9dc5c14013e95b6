use Rattle.std.proofs.Common.{◌≡◌, false, IfSome}
use Rattle.std.specs.Prelude.{slice_index_or}
use Rattle.pd_image.specs.Device.{OnlyReads}
use Rattle.pd_tree.specs.Cursor.{cursor_number}
use Rattle.pd_writeback.specs.Room.{marks, names_left}
use Rattle.pd_writeback.proofs.places.mark_named.Given as goal

-- what is left to be marked gives the same as all
abbrev pub invariant-loop-named : goal.invariant-loop-named
invariant-loop-named g l = record {
  marked : IfSome (g.A.Device.state l.initial.meta).held (λ image. marks l.seen (names_left image l.entries) ≡ marks l.initial.seen (names_left image l.initial.entries));
  first : slice_index_or l.seen 0 false ≡ slice_index_or l.initial.seen 0 false;
  kept : OnlyReads (g.A.Device.state l.initial.meta) (g.A.Device.state l.meta);
  faults : (g.A.Device.state l.meta).faults ≡ (g.A.Device.state l.initial.meta).faults;
}

abbrev pub decreases-loop-named : goal.decreases-loop-named
decreases-loop-named g l = cursor_number 8 l.entries
