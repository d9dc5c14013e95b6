use Rattle.std.proofs.Common.{◌≡◌, ℕ, ◌-◌, ◌<◌, ◌≤◌, drop, IfSome}
use Rattle.std.specs.List.{AllByRecursion}
use Rattle.pd_kinds.specs.Graph.{Graph}
use Rattle.pd_kinds.specs.declared.limits.TheConstants.{MAX_META_BLOCKS}
use Rattle.pd_image.specs.Device.{OnlyReads}
use Rattle.pd_damaged.specs.Known.{meta_blocks_of}
use Rattle.pd_damaged.specs.Listed.{AreRootsInside, AreStates, IsSearchOf, StatesInside, StaysSearch}
use Rattle.pd_damaged.proofs.listing.Search.states.Given as goal

-- the states of the mapping trees that were passed, from the last one down
abbrev pub invariant-loop-passed : goal.invariant-loop-passed
invariant-loop-passed g l = record {
  states : IfSome (g.D.Device.state l.initial.dev).held (λ image. (graph : Graph) → IsSearchOf graph image l.initial.self
      → graph.nr ≤ MAX_META_BLOCKS → AreStates graph image (drop (l.nr - l.passed) l.tops) l.states.items);
  inside : AreRootsInside l.initial.self → AllByRecursion (λ (t : ℕ). t < meta_blocks_of l.initial.self.remains) l.tops
      → StatesInside (meta_blocks_of l.initial.self.remains) l.states.items;
  stays : StaysSearch l.initial.self l.self;
  kept : OnlyReads (g.D.Device.state l.initial.dev) (g.D.Device.state l.dev);
  faults : (g.D.Device.state l.dev).faults ≡ (g.D.Device.state l.initial.dev).faults;
}
