use Rattle.std.proofs.Common.{◌≡◌, ◌*◌, ◌≤◌, min, IfSome}
use Rattle.pd_image.specs.Device.{OnlyReads}
use Rattle.pd_salvage_cache.specs.Arrays.{IsOfCache, IsReadyFor, KnowsCache}
use Rattle.pd_salvage_cache.proofs.GatherLemmas.{AreAllBefore, AreBefore}
use Rattle.pd_salvage_cache.proofs.LostLemmas.{AreLostBefore}
use Rattle.pd_salvage_cache.proofs.gather.found_rows.Given as goal

-- the rows of the keys before this one were found, and their lost words counted
abbrev pub invariant-loop-key : goal.invariant-loop-key
invariant-loop-key g l = record {
  before : AreBefore l.s l.key l.rows.items;
  few : l.unknown ≤ min (509 * l.key) l.s.blocks;
  told : IfSome (g.D.Device.state l.initial.dev).held (λ image. AreAllBefore l.s l.key l.rows.items image × (AreLostBefore l.s l.key l.unknown image × KnowsCache image l.s l.arrays));
  of : IsOfCache l.s l.arrays;
  ready : IsReadyFor l.key l.arrays;
  kept : OnlyReads (g.D.Device.state l.initial.dev) (g.D.Device.state l.dev);
  faults : (g.D.Device.state l.dev).faults ≡ (g.D.Device.state l.initial.dev).faults;
}
