use Rattle.std.proofs.Common.{rules, ◌≡◌, ◌<◌, ◌^◌, length, arith}
use Rattle.pd_kinds.specs.Field.{checksum, sealed}
use Rattle.pd_kinds.proofs.WrittenLemmas.{has_checksum-sealed}
use Rattle.pd_crc.proofs.sealing.seal.Goals as goal

pub returns-clause-valid : goal.returns-clause-valid
unfolding sealed
returns-clause-valid c =
    let whole : length c.args.block.now.0 ≡ 4096 = search rules in
    let below : checksum c.args.block.now.0 c.args.salt < 2 ^ 32 = omega arith in
    rw (c.put_u32.ensures, c.salted-sum.ensures) (has_checksum-sealed c.args.block.now.0 c.args.salt (omega arith) below)
