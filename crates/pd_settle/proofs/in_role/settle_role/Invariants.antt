use Rattle.std.proofs.Common.{◌≡◌, ℕ, ◌+◌, ◌<◌, ◌≤◌, true, IfSome}
use Rattle.pd_image.specs.Device.{OnlyReads}
use Rattle.pd_graph.specs.Notes.{size_of, note_in}
use Rattle.pd_settle.specs.Settled.{IsOrdering, IsClosed, steps}
use Rattle.pd_settle.specs.Settled.{is_fit, AreFit}
use Rattle.pd_settle.proofs.RoleLemmas.{is_in_role}
use Rattle.pd_settle.proofs.in_role.settle_role.Given as goal

abbrev pub invariant-loop-b : goal.invariant-loop-b
invariant-loop-b g l = record {
  closed : IsClosed (note_in l.notes);
  number : size_of l.notes ≡ (g.F.Format.graph l.format).nr;
  done : (c : ℕ) → c < l.b → 1 ≤ (note_in l.notes c).height;
  told : IfSome (g.D.Device.state l.initial.dev).held (λ image. AreFit (g.F.Format.graph l.format) image l.role (is_fit l.fit l.role)
      → IsOrdering (g.F.Format.graph l.format) image (is_in_role (g.F.Format.graph l.format).nr l.role) (is_fit l.fit l.role) true (note_in l.notes));
  reads : (g.D.Device.state l.dev).reads ≤ (g.D.Device.state l.initial.dev).reads + steps (g.F.Format.graph l.format).nr (note_in l.notes);
  kept : OnlyReads (g.D.Device.state l.initial.dev) (g.D.Device.state l.dev);
  faults : (g.D.Device.state l.dev).faults ≡ (g.D.Device.state l.initial.dev).faults;
}
