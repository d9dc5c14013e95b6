use Rattle.std.proofs.Common.{◌<◌, ◌^◌, arith}
use Rattle.pd_crc.proofs.Linear.{four_bytes}
use Rattle.pd_crc.proofs.sealing.after_four.Goals as goal

pub returns : goal.returns
returns c =
    let fits : c.args.word < 2 ^ 32 = omega arith in
    rw (c.entry.ensures, c.entry-2.ensures, c.entry-3.ensures, c.entry-4.ensures) (four_bytes c.args.word fits)
