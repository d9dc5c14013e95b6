use Rattle.pd_crc.proofs.Linear.{one_byte}
use Rattle.pd_crc.proofs.sealing.after_one.Goals as goal

pub returns : goal.returns
returns c = rw c.entry.ensures (one_byte c.args.crc)
