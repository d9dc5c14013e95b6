use Rattle.std.proofs.Common.{◌≡◌, ℕ, ◌+◌, ◌<◌, ◌≤◌, true, false, IfSome}
use Rattle.pd_image.specs.Device.{OnlyReads}
use Rattle.pd_graph.specs.Marks.{has_bit}
use Rattle.pd_graph.specs.Audit.{note_at, roles_at, KeepsButNotes}
use Rattle.pd_graph.specs.Walk.{IsWalked, HasNotedLeaves}
use Rattle.pd_settle.specs.Settled.{is_node, IsOrdering, IsClosed, steps}
use Rattle.pd_settle.proofs.settling.note_each.Given as goal

abbrev pub invariant-loop-b : goal.invariant-loop-b
invariant-loop-b g l = record {
  closed : IsClosed (note_at l.audit);
  marks : KeepsButNotes l.fn.audit l.audit;
  done : (c role : ℕ) → c < l.b → role < g.F.Format.ROLES → has_bit (roles_at l.fn.audit c) role ≡ true
      → (g.F.Format.graph l.format).is_tree role ≡ true → 1 ≤ (note_at l.audit c).height;
  told : IfSome (g.D.Device.state l.initial.dev).held (λ image. IsWalked (g.F.Format.graph l.format) image l.fn.audit
      → HasNotedLeaves (g.F.Format.graph l.format) image l.fn.audit
      → IsOrdering (g.F.Format.graph l.format) image (is_node (g.F.Format.graph l.format) image) (λ c. true) false (note_at l.audit));
  reads : (g.D.Device.state l.dev).reads + steps (g.F.Format.graph l.format).nr (note_at l.fn.audit)
      ≤ (g.D.Device.state l.initial.dev).reads + steps (g.F.Format.graph l.format).nr (note_at l.audit);
  kept : OnlyReads (g.D.Device.state l.initial.dev) (g.D.Device.state l.dev);
  faults : (g.D.Device.state l.dev).faults ≡ (g.D.Device.state l.initial.dev).faults;
}
