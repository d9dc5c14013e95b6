use Rattle.std.proofs.Common.{◌+◌, ◌≤◌, arith}
use Rattle.pd_kinds.proofs.ResultLemmas.{if_maps}
use Rattle.pd_graph.specs.Audit.{blocks_of}
use Rattle.pd_check.specs.Arrays.{is_at}
use Rattle.pd_check.proofs.ArrayLevels.{level_done}
use Rattle.pd_check.proofs.ArrayReads.{where_all, where_level}
use Rattle.pd_check.proofs.array_nodes.mark_level.Goals as goal

pub returns-in_err-mark_node-clause-reads : goal.returns-in_err-mark_node-clause-reads
returns-in_err-mark_node-clause-reads g c =
    let at = is_at c.args.audit.now c.args.roles.nodes c.args.height in
    let less : c.loop-b.b + 1 ≤ blocks_of c.args.audit.now = omega (arith, c.loop-b-test.true, c.nr-b-end.ensures.number) in
    omega (
      arith,
      c.loop-b.invariant.reads,
      c.in_err-mark_node.ensures.reads,
      where_all at (c.loop-b.b + 1) (blocks_of c.args.audit.now) less,
      where_level c.args.audit.now c.args.roles.nodes c.args.height (blocks_of c.args.audit.now),
    )

-- the loop went over all blocks
pub returns-clause-marked : goal.returns-clause-marked
returns-clause-marked g c =
    let all : (g.F.Format.graph c.args.format.now).nr ≤ c.loop-b.b = omega (arith, c.loop-b-test.false, c.nr-b-end.ensures.number, c.requires.number) in
    if_maps (g.D.Device.state c.args.dev.now).held _ _ (λ image marked has before.
    level_done (g.F.Format.graph c.args.format.now) image c.args.audit.now c.args.roles has c.args.height c.loop-b.b c.loop-b.marks all (marked has before))
    c.loop-b.invariant.marked

pub returns-clause-reads : goal.returns-clause-reads
returns-clause-reads g c =
    let at = is_at c.args.audit.now c.args.roles.nodes c.args.height in
    let all : c.loop-b.b ≤ blocks_of c.args.audit.now = omega (arith, c.loop-b.auto.b-end, c.nr-b-end.ensures.number) in
    omega (
      arith,
      c.loop-b.invariant.reads,
      where_all at c.loop-b.b (blocks_of c.args.audit.now) all,
      where_level c.args.audit.now c.args.roles.nodes c.args.height (blocks_of c.args.audit.now),
    )
