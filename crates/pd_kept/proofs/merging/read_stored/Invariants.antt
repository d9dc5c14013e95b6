use Rattle.std.proofs.Common.{◌≡◌, ℕ, List, ◌++◌, map, IfSome}
use Rattle.pd_image.specs.Device.{OnlyReads}
use Rattle.pd_salvage.specs.Cursor.{saved_least, saved_number, saved_room}
use Rattle.pd_kept.specs.Kept.{AreStored, pair_of}
use Rattle.pd_kept.proofs.TellingLemmas.{ReadsNumbers}
use Rattle.pd_kept.proofs.merging.read_stored.Given as goal

-- the numbers that were read and those that are left are all
abbrev pub invariant-loop-stored : goal.invariant-loop-stored
invariant-loop-stored g l = record {
  ascend : (rest : List (ℕ × ℕ)) → AreStored (saved_least l.entries) rest → AreStored 0 (map pair_of l.stored.items ++ rest);
  told : IfSome (g.D.Device.state l.initial.dev).held (λ image. ReadsNumbers l.s image l.stored.items l.entries);
  room : saved_room l.entries ≡ l.s.meta_map.blocks;
  kept : OnlyReads (g.D.Device.state l.initial.dev) (g.D.Device.state l.dev);
  faults : (g.D.Device.state l.dev).faults ≡ (g.D.Device.state l.initial.dev).faults;
}

abbrev pub decreases-loop-stored : goal.decreases-loop-stored
decreases-loop-stored g l = saved_number 24 l.entries
