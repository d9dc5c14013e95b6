use Rattle.std.proofs.Common.{◌≡◌, ℕ, ◌+◌, ◌-◌, ◌*◌, ◌≤◌, List, IfSome}
use Rattle.pd_image.specs.Device.{OnlyReads}
use Rattle.pd_graph.specs.Notes.{note_in}
use Rattle.pd_settle.specs.Looking.{IsKept}
use Rattle.pd_settle.specs.Settled.{steps}
use Rattle.pd_settle.proofs.DescentLemmas.{Descending}
use Rattle.pd_settle.proofs.descending.descend.Given as goal

abbrev pub invariant-loop-top : goal.invariant-loop-top
invariant-loop-top g l = record {
  descends : (stack : List ℕ) × Descending (g.F.Format.graph l.format) (g.D.Device.state l.initial.dev).held l.role l.start l.strict l.fn.notes l.notes l.top stack;
  reads : (g.D.Device.state l.dev).reads + steps (g.F.Format.graph l.format).nr (note_in l.fn.notes) + 1
      ≤ (g.D.Device.state l.initial.dev).reads + steps (g.F.Format.graph l.format).nr (note_in l.notes);
  holds : IfSome (g.D.Device.state l.initial.dev).held (λ image. IsKept image l.kept);
  kept : OnlyReads (g.D.Device.state l.initial.dev) (g.D.Device.state l.dev);
  faults : (g.D.Device.state l.dev).faults ≡ (g.D.Device.state l.initial.dev).faults;
}

abbrev pub decreases-loop-top : goal.decreases-loop-top
decreases-loop-top g l = 2 * (g.F.Format.graph l.format).nr - steps (g.F.Format.graph l.format).nr (note_in l.notes)
