use Rattle.pd_writeback.proofs.OverlaidLemmas.{write_leaves}
use Rattle.pd_writeback.proofs.copying.copy_block.Goals as goal

pub returns-in-Ok-write-clause-crash : goal.returns-in-Ok-write-clause-crash
returns-in-Ok-write-clause-crash g c may_differ base may here =
    let w = c.write.ensures.wrote in
    write_leaves c.args.to c.read.new.into.0 may_differ base may here w.crash w.told w.others

pub returns-in-Err-write-clause-crash : goal.returns-in-Err-write-clause-crash
returns-in-Err-write-clause-crash g c may_differ base may here =
    let w = c.write.ensures.wrote in
    write_leaves c.args.to c.read.new.into.0 may_differ base may here w.crash w.told w.others
