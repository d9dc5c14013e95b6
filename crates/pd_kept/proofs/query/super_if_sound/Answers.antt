use Rattle.pd_kept.proofs.StatesLemmas.{blames_read, has_faults, none_taken}
use Rattle.pd_kept.proofs.query.super_if_sound.Goals as goal

pub returns-in-Ok-clause-faults : goal.returns-in-Ok-clause-faults
returns-in-Ok-clause-faults g c = c.in-Ok.ensures.causes 0

pub returns-in-Err-clause-sound : goal.returns-in-Err-clause-sound
returns-in-Err-clause-sound g c = rw c.untaken.ensures (none_taken _ c.in-Err.fault)

pub returns-in-Err-clause-broken : goal.returns-in-Err-clause-broken
returns-in-Err-clause-broken g c = rw c.untaken.ensures (has_faults c.in-Err.fault _ _ _ c.in-Err.ensures.lacks)

pub returns-in-Err-clause-faults : goal.returns-in-Err-clause-faults
returns-in-Err-clause-faults g c = rw c.untaken.ensures (blames_read c.in-Err.fault _ _ 0 0 (c.in-Err.ensures.causes 0))
