use Rattle.std.proofs.Common.{map}
use Rattle.std.specs.List.{range_with_len}
use Rattle.pd_check.specs.Known.{Charges}
use Rattle.pd_check.specs.Refs.{shared_test}
use Rattle.pd_check.proofs.charging.mark_shared.Given as goal

-- the blocks before this one were looked at
abbrev pub invariant-loop-b : goal.invariant-loop-b
invariant-loop-b l = Charges (map (shared_test l.initial.audit l.role) (range_with_len 0 l.b)) l.initial.audit l.audit
