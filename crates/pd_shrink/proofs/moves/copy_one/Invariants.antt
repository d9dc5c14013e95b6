use Rattle.std.proofs.Common.{◌≡◌, ℕ, Bool, true, List, IfSome}
use Rattle.std.specs.Option.{is_some}
use Rattle.pd_kinds.specs.Crash.{LeavesNow, LeavesOnly}
use Rattle.pd_image.specs.Device.{KeepsPlace}
use Rattle.pd_answers.specs.Writebacks.{stands_for}
use Rattle.pd_answers.specs.Shrinks.{copy_of_move}
use Rattle.pd_writeback.specs.Copied.{IsCopied, IsLeftAsBut}
use Rattle.pd_shrink.specs.Moves.{move_in}
use Rattle.pd_shrink.proofs.moves.copy_one.Given as goal

-- so many blocks were copied
abbrev pub invariant-loop-i : goal.invariant-loop-i
invariant-loop-i g l = record {
  copied : IfSome (g.C.Device.state l.initial.pool).held (λ held. IfSome (g.C.Device.state l.pool).held (IsCopied l.from l.to l.i held held));
  crash : (may_differ : ℕ → Bool) (base : List (List ℕ)) → ((b : ℕ) → stands_for l.each (copy_of_move (move_in l.one)) b ≡ true → may_differ b ≡ true)
      → LeavesNow (IsLeftAsBut may_differ base) (g.C.Device.state l.initial.pool)
      → LeavesOnly (IsLeftAsBut may_differ base) (g.C.Device.state l.initial.pool) (g.C.Device.state l.pool);
  told : is_some (g.C.Device.state l.pool).held ≡ is_some (g.C.Device.state l.initial.pool).held;
  place : KeepsPlace (g.C.Device.state l.initial.pool) (g.C.Device.state l.pool);
  faults : (g.C.Device.state l.pool).faults ≡ (g.C.Device.state l.initial.pool).faults;
}
