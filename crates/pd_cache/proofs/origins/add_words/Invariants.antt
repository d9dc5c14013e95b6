use Rattle.std.proofs.Common.{◌≡◌, ℕ, ◌+◌, ◌≤◌, ◌++◌, List, length}
use Rattle.pd_meaning_cache.specs.OriginSet.{AreAdded, others_number, others_room}
use Rattle.pd_cache.proofs.WordLemmas.{origins_to}
use Rattle.pd_cache.proofs.origins.add_words.Given as goal

-- the words before this one were added
abbrev pub invariant-loop-i : goal.invariant-loop-i
invariant-loop-i l = record {
  number : l.number ≡ length (origins_to l.block.0 l.i);
  fewer : l.number ≤ l.i;
  added : (os : List ℕ) → AreAdded os l.initial.met → AreAdded (os ++ origins_to l.block.0 l.i) l.met;
  few : others_number l.met ≤ others_number l.initial.met + l.i;
  room : others_room l.initial.met ≤ others_room l.met;
}
