use Rattle.std.proofs.Common.{arith}
use Rattle.pd_value.proofs.Parts.{index_written}
use Rattle.pd_value.proofs.space_map.IndexEntryValue.write.Goals as goal

pub returns : goal.returns
returns c =
    let v = c.args.self.now in
    rw (c.put_u32-2.ensures, c.put_u32.ensures, c.put_u64.ensures)
    (index_written c.args.bytes.now v.block v.free v.none_before (omega arith) (omega arith))
