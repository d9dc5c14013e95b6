use Rattle.std.proofs.Common.{ℕ, ◌+◌, ◌≤◌, List, ◌++◌, take}
use Rattle.pd_meaning_cache.specs.OriginSet.{AreAdded, others_number, others_room}
use Rattle.pd_salvage_cache.specs.SavedCache.{origins_of}
use Rattle.pd_salvage_cache.proofs.gather.add_origins.Given as goal

-- the origins of the rows before this one were added
abbrev pub invariant-loop-i : goal.invariant-loop-i
invariant-loop-i l = record {
  added : (os : List ℕ) → AreAdded os l.initial.set → AreAdded (os ++ origins_of (take l.i l.rows)) l.set;
  few : others_number l.set ≤ others_number l.initial.set + l.i;
  room : others_room l.initial.set ≤ others_room l.set;
}
