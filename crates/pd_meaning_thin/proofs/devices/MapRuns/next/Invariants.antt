use Rattle.std.proofs.Common.{◌≡◌, ◌≤◌, IfSome}
use Rattle.pd_image.specs.Device.{OnlyReads}
use Rattle.pd_meaning_thin.specs.Runs.{runs_number}
use Rattle.pd_meaning_thin.proofs.JoinedLemmas.{RunsTold}
use Rattle.pd_meaning_thin.proofs.devices.MapRuns.next.Given as goal

-- the runs that are left are those that were left at the start
abbrev pub invariant-loop-self : goal.invariant-loop-self
invariant-loop-self g l = record {
  told : IfSome (g.D.Device.state l.initial.dev).held (λ image. RunsTold image (g.D.Device.state l.initial.dev).reads l.initial.self (g.D.Device.state l.dev).reads l.self);
  number : runs_number l.self ≤ runs_number l.initial.self;
  kept : OnlyReads (g.D.Device.state l.initial.dev) (g.D.Device.state l.dev);
  faults : (g.D.Device.state l.dev).faults ≡ (g.D.Device.state l.initial.dev).faults;
}

abbrev pub decreases-loop-self : goal.decreases-loop-self
decreases-loop-self g l = runs_number l.self
