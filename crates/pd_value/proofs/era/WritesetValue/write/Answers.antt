use Rattle.std.proofs.Common.{arith}
use Rattle.pd_value.proofs.Parts.{writeset_written}
use Rattle.pd_value.proofs.era.WritesetValue.write.Goals as goal

pub returns : goal.returns
returns c =
    let v = c.args.self.now in
    rw (c.put_u64.ensures, c.put_u32.ensures) (writeset_written c.args.bytes.now v.bits v.root (omega arith))
