use Rattle.std.proofs.Common.{◌≡◌, IfSome}
use Rattle.pd_image.specs.Device.{OnlyReads}
use Rattle.pd_lines.specs.Printer.{printing}
use Rattle.pd_tree.specs.Stack.{stack_number}
use Rattle.pd_pool_dumps.specs.LeafText.{kept_texts, walk_runs}
use Rattle.pd_pool_dumps.specs.LeafText.{AreKept}
use Rattle.pd_pool_dumps.specs.ThinText.{RunsSoFar}
use Rattle.pd_pool_dumps.proofs.device_walk.DeviceWalk.go_on.Given as goal

-- the runs that aren't left any more were printed
abbrev pub invariant-steps : goal.invariant-steps
invariant-steps g l = record {
  same_reference : l.printer.out.ghost_name ≡ l.initial.printer.out.ghost_name;
  so_far : RunsSoFar (g.D.Device.state l.initial.dev).held (λ image. walk_runs image l.initial.self) (λ image. walk_runs image l.self)
      (printing g.K.Sink.state l.initial.printer) (printing g.K.Sink.state l.printer) l.initial.counts l.counts;
  texts : IfSome (g.D.Device.state l.initial.dev).held (λ image. AreKept image (kept_texts l.self));
  kept : OnlyReads (g.D.Device.state l.initial.dev) (g.D.Device.state l.dev);
  dev_faults : (g.D.Device.state l.dev).faults ≡ (g.D.Device.state l.initial.dev).faults;
  out_faults : (g.K.Sink.state l.printer.out.now).faults ≡ (g.K.Sink.state l.initial.printer.out.now).faults;
}

abbrev pub decreases-steps : goal.decreases-steps
decreases-steps g l = stack_number 8 l.self.stack
