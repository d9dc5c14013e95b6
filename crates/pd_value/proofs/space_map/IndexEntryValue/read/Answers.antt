use Rattle.std.proofs.Common.{rules}
use Rattle.pd_value.proofs.Parts.{index_read}
use Rattle.pd_value.proofs.space_map.IndexEntryValue.read.Goals as goal

pub returns : goal.returns
returns c = rw (index_read c.args.bytes.now, ← c.u64_at.ensures, ← c.u32_at.ensures, ← c.u32_at-2.ensures) (search rules)
