use Rattle.std.proofs.Common.{◌≡◌, ℕ, ◌+◌, ◌≤◌, Bool, IfSome}
use Rattle.pd_kinds.specs.Graph.{Graph}
use Rattle.pd_image.specs.Device.{OnlyReads}
use Rattle.pd_graph.specs.Notes.{size_of}
use Rattle.pd_graph.specs.Walk.{weigh}
use Rattle.pd_measures.specs.Measured.{places_of}
use Rattle.pd_measures.specs.Measured.{AreMeasuredTo, AreTrees, was_read}
use Rattle.pd_measures.proofs.measures.measure_level.Given as goal

-- the blocks before this one were looked at
abbrev pub invariant-loop-b : goal.invariant-loop-b
invariant-loop-b g l = record {
  measured : IfSome (g.D.Device.state l.initial.dev).held (λ image. (graph : Graph) (role : ℕ) (fit : ℕ → Bool)
      → AreTrees graph image role g.G.Gauge.SIZE fit l.fn.notes
      → AreMeasuredTo graph image role g.G.Gauge.SIZE fit (g.G.Gauge.of l.fn.gauge) l.fn.notes l.height 0 l.initial.measures
      → AreMeasuredTo graph image role g.G.Gauge.SIZE fit (g.G.Gauge.of l.fn.gauge) l.fn.notes l.height l.b l.measures);
  places : places_of l.measures ≡ places_of l.initial.measures;
  reads : (g.D.Device.state l.dev).reads + weigh (was_read l.fn.notes l.height 0) (λ c. 1) (size_of l.fn.notes)
      ≤ (g.D.Device.state l.initial.dev).reads + weigh (was_read l.fn.notes l.height l.b) (λ c. 1) (size_of l.fn.notes);
  kept : OnlyReads (g.D.Device.state l.initial.dev) (g.D.Device.state l.dev);
  faults : (g.D.Device.state l.dev).faults ≡ (g.D.Device.state l.initial.dev).faults;
}
