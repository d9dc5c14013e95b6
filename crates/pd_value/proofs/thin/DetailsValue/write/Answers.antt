use Rattle.std.proofs.Common.{arith}
use Rattle.pd_value.proofs.Parts.{details_written}
use Rattle.pd_value.proofs.thin.DetailsValue.write.Goals as goal

pub returns : goal.returns
returns c =
    let v = c.args.self.now in
    rw (c.put_u32-2.ensures, c.put_u32.ensures, c.put_u64-2.ensures, c.put_u64.ensures)
    (details_written c.args.bytes.now v.mapped v.transaction v.created v.snapped (omega arith) (omega arith) (omega arith))
