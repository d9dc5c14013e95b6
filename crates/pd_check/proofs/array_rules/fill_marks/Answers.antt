use Rattle.std.proofs.Common.{◌≡◌, ◌+◌, subst, arith}
use Rattle.pd_kinds.proofs.ResultLemmas.{if_maps}
use Rattle.pd_graph.specs.Audit.{blocks_of}
use Rattle.pd_check.specs.Arrays.{AreMarkedTo}
use Rattle.pd_check.proofs.ArrayLevels.{all_marked}
use Rattle.pd_check.proofs.ArrayReads.{where_in}
use Rattle.pd_check.proofs.array_rules.fill_marks.Goals as goal

pub returns-in_err-mark_level-clause-reads : goal.returns-in_err-mark_level-clause-reads
returns-in_err-mark_level-clause-reads g c =
    omega (
      arith,
      c.loop-height.invariant.reads,
      c.in_err-mark_level.ensures.reads,
      where_in c.args.audit.now c.args.roles.nodes (c.loop-height.height + 1) (blocks_of c.args.audit.now),
    )

-- the loop went over all heights
pub returns-clause-marked : goal.returns-clause-marked
returns-clause-marked g c =
    let graph = g.F.Format.graph c.args.format.now in
    let last : c.loop-height.height ≡ c.levels-height-end.result = omega (arith, c.loop-height-test.false, c.loop-height.auto.height-end) in
    if_maps (g.D.Device.state c.args.dev.now).held _ _ (λ image marked has counted.
    all_marked graph image c.args.audit.now c.args.roles has c.levels-height-end.result c.loop-height.marks
    (λ b within. c.levels-height-end.ensures.above b (omega (arith, within, c.requires.number)))
    (subst (λ h. AreMarkedTo graph image c.args.audit.now c.args.roles h 0 c.loop-height.marks) last (marked has counted)))
    c.loop-height.invariant.marked

pub returns-clause-reads : goal.returns-clause-reads
returns-clause-reads g c =
    omega (arith, c.loop-height.invariant.reads, where_in c.args.audit.now c.args.roles.nodes c.loop-height.height (blocks_of c.args.audit.now))
