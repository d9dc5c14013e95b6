use Rattle.std.proofs.Common.{sym}
use Rattle.pd_devices.proofs.CountLemmas.{overflows_none}
use Rattle.pd_restore.proofs.saved_need.Thrice.new.Goals as goal

pub invariant_of-result : goal.invariant_of-result
invariant_of-result c = sym (overflows_none c.in_ok-new.field-0 c.in_ok-new.field-0.size c.in_ok-new.ensures.none)
