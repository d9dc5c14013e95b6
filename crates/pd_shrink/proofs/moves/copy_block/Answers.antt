use Rattle.pd_kinds.proofs.CrashLemmas.{and_then, stays}
use Rattle.pd_writeback.proofs.OverlaidLemmas.{write_leaves}
use Rattle.pd_shrink.proofs.moves.copy_block.Goals as goal

pub returns-in_err-read-clause-crash : goal.returns-in_err-read-clause-crash
returns-in_err-read-clause-crash g c may_differ base may here =
    let r = c.read.ensures.kept in
    stays r.held r.history here

pub returns-clause-crash : goal.returns-clause-crash
returns-clause-crash g c may_differ base may here =
    let r = c.read.ensures.kept in
    let w = c.write.ensures.wrote in
    let so_far = stays {old = g.C.Device.state c.args.pool.now} {new = g.C.Device.state c.read.new.self} r.held r.history here in
    and_then so_far (write_leaves c.args.to c.read.new.into.0 may_differ base may so_far.now w.crash w.told w.others)
