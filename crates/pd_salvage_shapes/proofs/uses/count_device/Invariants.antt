use Rattle.std.proofs.Common.{◌≡◌, ℕ, List, ◌++◌, length, take}
use Rattle.pd_salvage_shapes.specs.SeenShape.{AreUses, leaves_of}
use Rattle.pd_salvage_shapes.specs.Visiting.{mets_of}
use Rattle.pd_salvage_shapes.proofs.uses.count_device.Given as goal

-- the notes before this one were counted
abbrev pub invariant-loop-k : goal.invariant-loop-k
invariant-loop-k l = record {
  counted : (blocks : List ℕ) → AreUses blocks l.initial.uses → AreUses (blocks ++ leaves_of (mets_of l.notes (take l.k-index l.met))) l.uses;
  same : length l.uses ≡ length l.initial.uses;
}
