use Rattle.std.proofs.Common.{rules}
use Rattle.pd_value.proofs.Parts.{details_read}
use Rattle.pd_value.proofs.thin.DetailsValue.read.Goals as goal

pub returns : goal.returns
returns c = rw (details_read c.args.bytes.now, ← c.u64_at.ensures, ← c.u64_at-2.ensures, ← c.u32_at.ensures, ← c.u32_at-2.ensures) (search rules)
