use Rattle.std.proofs.Common.{◌≡◌, ◌+◌, ◌≤◌, length, IfSome}
use Rattle.pd_image.specs.Device.{OnlyReads}
use Rattle.pd_scan.proofs.JudgeLemmas.{AreJudgedBelow}
use Rattle.pd_scan.proofs.lost.judge_each.Given as goal

abbrev pub invariant-loop-b : goal.invariant-loop-b
invariant-loop-b g l = record {
  judged : IfSome (g.D.Device.state l.initial.dev).held (λ image. AreJudgedBelow (g.F.Format.graph l.format) image l.first l.end l.b l.fit);
  places : length l.fit ≡ (g.F.Format.graph l.format).nr;
  reads : (g.D.Device.state l.dev).reads + 1 ≤ (g.D.Device.state l.initial.dev).reads + l.b;
  kept : OnlyReads (g.D.Device.state l.initial.dev) (g.D.Device.state l.dev);
  faults : (g.D.Device.state l.dev).faults ≡ (g.D.Device.state l.initial.dev).faults;
}
