use Rattle.std.proofs.Common.{◌≡◌, ℕ, List, Some, IfSome, take}
use Rattle.std.specs.Option.{is_some}
use Rattle.pd_kinds.specs.Crash.{LeavesNow, LeavesOnly}
use Rattle.pd_image.specs.Device.{KeepsPlace, OnlyReads}
use Rattle.pd_answers.specs.Writebacks.{overlaid}
use Rattle.pd_writeback.specs.Plan.{cached_all}
use Rattle.pd_writeback.specs.Copied.{IsEachOnce, IsLeftKept}
use Rattle.pd_writeback.proofs.copying.copy_hot.Given as goal

-- so many hot blocks were copied
abbrev pub invariant-loop-one : goal.invariant-loop-one
invariant-loop-one g l = record {
  overlaid : IsEachOnce l.each (cached_all l.hot) → IfSome (g.C.Device.state l.initial.fast).held (λ held. IfSome (g.B.Device.state l.initial.origin).held (λ old.
      (g.B.Device.state l.origin).held ≡ Some (overlaid l.each (take l.one-index (cached_all l.hot)) old held)));
  crash : (base : List (List ℕ)) → LeavesNow (IsLeftKept l.each (cached_all l.hot) base) (g.B.Device.state l.initial.origin)
      → LeavesOnly (IsLeftKept l.each (cached_all l.hot) base) (g.B.Device.state l.initial.origin) (g.B.Device.state l.origin);
  told : is_some (g.B.Device.state l.origin).held ≡ is_some (g.B.Device.state l.initial.origin).held;
  kept : OnlyReads (g.C.Device.state l.initial.fast) (g.C.Device.state l.fast);
  place : KeepsPlace (g.B.Device.state l.initial.origin) (g.B.Device.state l.origin);
  origin_faults : (g.B.Device.state l.origin).faults ≡ (g.B.Device.state l.initial.origin).faults;
  fast_faults : (g.C.Device.state l.fast).faults ≡ (g.C.Device.state l.initial.fast).faults;
}
