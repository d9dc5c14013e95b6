use Rattle.std.proofs.Common.{rules}
use Rattle.pd_value.proofs.Parts.{writeset_read}
use Rattle.pd_value.proofs.era.WritesetValue.read.Goals as goal

pub returns : goal.returns
returns c = rw (writeset_read c.args.bytes.now, ← c.u32_at.ensures, ← c.u64_at.ensures) (search rules)
