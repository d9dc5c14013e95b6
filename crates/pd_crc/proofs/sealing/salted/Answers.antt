use Rattle.std.proofs.Common.{rules, ◌≡◌, length}
use Rattle.pd_crc.proofs.Sealed.{checksum-rest}
use Rattle.pd_crc.proofs.sealing.salted.Goals as goal

pub returns : goal.returns
returns c =
    let whole : length c.args.block.now.0 ≡ 4096 = search rules in
    rw c.crc32c_raw.ensures (checksum-rest c.args.block.now.0 c.args.salt whole)
