use Rattle.std.proofs.Common.{◌≡◌, ℕ, ◌+◌, ◌<◌, ◌≤◌, Bool, true, List, IfSome}
use Rattle.std.specs.Option.{is_some}
use Rattle.pd_kinds.specs.Crash.{LeavesNow, LeavesOnly}
use Rattle.pd_image.specs.Device.{KeepsPlace, OnlyReads}
use Rattle.pd_writeback.specs.Copied.{IsCopied, IsLeftAsBut}
use Rattle.pd_writeback.proofs.copying.copy_blocks.Given as goal

-- so many blocks were copied
abbrev pub invariant-loop-i : goal.invariant-loop-i
invariant-loop-i g l = record {
  copied : IfSome (g.A.Device.state l.initial.source).held (λ held. IfSome (g.B.Device.state l.initial.target).held (λ old.
      IfSome (g.B.Device.state l.target).held (IsCopied l.from l.to l.i held old)));
  crash : (may_differ : ℕ → Bool) (base : List (List ℕ)) → ((b : ℕ) → l.to ≤ b → b < l.to + l.count → may_differ b ≡ true)
      → LeavesNow (IsLeftAsBut may_differ base) (g.B.Device.state l.initial.target)
      → LeavesOnly (IsLeftAsBut may_differ base) (g.B.Device.state l.initial.target) (g.B.Device.state l.target);
  told : is_some (g.B.Device.state l.target).held ≡ is_some (g.B.Device.state l.initial.target).held;
  kept : OnlyReads (g.A.Device.state l.initial.source) (g.A.Device.state l.source);
  place : KeepsPlace (g.B.Device.state l.initial.target) (g.B.Device.state l.target);
  source_faults : (g.A.Device.state l.source).faults ≡ (g.A.Device.state l.initial.source).faults;
  target_faults : (g.B.Device.state l.target).faults ≡ (g.B.Device.state l.initial.target).faults;
}
