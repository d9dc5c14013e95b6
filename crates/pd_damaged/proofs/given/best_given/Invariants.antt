use Rattle.std.proofs.Common.{◌≡◌, ℕ, ◌≤◌, IfSome}
use Rattle.pd_kinds.specs.Graph.{Graph}
use Rattle.pd_kinds.specs.declared.limits.TheConstants.{MAX_META_BLOCKS}
use Rattle.pd_image.specs.Device.{OnlyReads}
use Rattle.pd_damaged.specs.Given.{IsOneOf, ids_below}
use Rattle.pd_damaged.proofs.GivenLemmas.{IsBestSoFar}
use Rattle.pd_damaged.proofs.given.best_given.Given as goal

-- the best of the roots before this one
abbrev pub invariant-loop-i : goal.invariant-loop-i
invariant-loop-i g l = record {
  given : IfSome (g.D.Device.state l.initial.dev).held (λ image. (graph : Graph) (top : ℕ) → graph.nr ≡ l.nr → l.nr ≤ MAX_META_BLOCKS
      → l.ids ≡ ids_below l.nr image top → IsBestSoFar graph image top l.roots l.i l.best);
  among : IsOneOf l.roots l.best.details;
  kept : OnlyReads (g.D.Device.state l.initial.dev) (g.D.Device.state l.dev);
  faults : (g.D.Device.state l.dev).faults ≡ (g.D.Device.state l.initial.dev).faults;
}
