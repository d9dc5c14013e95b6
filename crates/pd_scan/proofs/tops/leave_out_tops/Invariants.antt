use Rattle.std.proofs.Common.{◌≡◌, ℕ, ◌+◌, ◌≤◌, ◌&&◌, ◌||◌, not, nat_lt, length, IfSome}
use Rattle.pd_kinds.specs.Graph.{block_at}
use Rattle.pd_image.specs.Device.{OnlyReads}
use Rattle.pd_settle.specs.Settled.{is_fit}
use Rattle.pd_scan.specs.Partners.{keeps_roots}
use Rattle.pd_scan.proofs.tops.leave_out_tops.Given as goal

abbrev pub invariant-loop-b : goal.invariant-loop-b
invariant-loop-b g l = record {
  told : IfSome (g.D.Device.state l.initial.dev).held (λ image. (c : ℕ) → is_fit l.fit l.role c
      ≡ (is_fit l.initial.fit l.role c && (not (nat_lt c l.b) || keeps_roots (g.F.Format.contents l.format) l.notes l.role (block_at image c))));
  places : length l.fit ≡ (g.F.Format.graph l.format).nr;
  reads : (g.D.Device.state l.dev).reads ≤ (g.D.Device.state l.initial.dev).reads + l.b;
  kept : OnlyReads (g.D.Device.state l.initial.dev) (g.D.Device.state l.dev);
  faults : (g.D.Device.state l.dev).faults ≡ (g.D.Device.state l.initial.dev).faults;
}
