use Rattle.pd_kept.proofs.WeighingLemmas.{saved_ascend}
use Rattle.pd_kept.proofs.latest.times_of.Goals as goal

pub lacks_details-requires-clause-saved : goal.lacks_details-requires-clause-saved
lacks_details-requires-clause-saved c = rw c.devices.ensures (saved_ascend c.args.saved.now c.head.ensures.sound)
