use Rattle.std.proofs.Common.{◌≡◌, ℕ, ◌+◌, ◌≤◌, Bool, IfSome}
use Rattle.pd_kinds.specs.Graph.{Graph}
use Rattle.pd_image.specs.Device.{OnlyReads}
use Rattle.pd_graph.specs.Notes.{size_of}
use Rattle.pd_graph.specs.Walk.{weigh}
use Rattle.pd_measures.specs.Measured.{places_of}
use Rattle.pd_measures.specs.Measured.{AreMeasuredTo, AreTrees, was_read}
use Rattle.pd_measures.proofs.measures.measure_trees.Given as goal

-- all nodes below this height were measured
abbrev pub invariant-loop-height : goal.invariant-loop-height
invariant-loop-height g l = record {
  measured : IfSome (g.D.Device.state l.initial.dev).held (λ image. (graph : Graph) (role : ℕ) (fit : ℕ → Bool)
      → AreTrees graph image role g.G.Gauge.SIZE fit l.fn.notes
      → AreMeasuredTo graph image role g.G.Gauge.SIZE fit (g.G.Gauge.of l.fn.gauge) l.fn.notes l.height 0 l.measures);
  places : places_of l.measures ≡ places_of l.initial.measures;
  reads : (g.D.Device.state l.dev).reads
      ≤ (g.D.Device.state l.initial.dev).reads + weigh (was_read l.fn.notes l.height 0) (λ c. 1) (size_of l.fn.notes);
  kept : OnlyReads (g.D.Device.state l.initial.dev) (g.D.Device.state l.dev);
  faults : (g.D.Device.state l.dev).faults ≡ (g.D.Device.state l.initial.dev).faults;
}
