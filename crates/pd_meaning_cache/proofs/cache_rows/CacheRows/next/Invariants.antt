use Rattle.std.proofs.Common.{◌≡◌, ◌≤◌, IfSome}
use Rattle.pd_image.specs.Device.{OnlyReads}
use Rattle.pd_meaning_cache.specs.Sides.{rows_ahead_number}
use Rattle.pd_meaning_cache.proofs.SidesLemmas.{SameRows}
use Rattle.pd_meaning_cache.proofs.cache_rows.CacheRows.next.Given as goal

abbrev pub invariant-loop-word : goal.invariant-loop-word
invariant-loop-word g l = record {
  told : IfSome (g.D.Device.state l.initial.dev).held (λ image. SameRows image l.initial.self l.self);
  number : rows_ahead_number l.self ≤ rows_ahead_number l.initial.self;
  kept : OnlyReads (g.D.Device.state l.initial.dev) (g.D.Device.state l.dev);
  faults : (g.D.Device.state l.dev).faults ≡ (g.D.Device.state l.initial.dev).faults;
}

abbrev pub decreases-loop-word : goal.decreases-loop-word
decreases-loop-word g l = rows_ahead_number l.self
