use Rattle.std.proofs.Common.{ap, ◌∙◌, arith}
use Rattle.std.specs.List.{flat_map}
use Rattle.pd_kinds.specs.Whole.{array_whole, reached_writesets}
use Rattle.pd_kinds.proofs.ResultLemmas.{if_then}
use Rattle.pd_graph.specs.Audit.{blocks_of}
use Rattle.pd_check.specs.Refs.{number_in}
use Rattle.pd_check.proofs.RefsLemmas.{ok_maps}
use Rattle.pd_check.proofs.SharedLemmas.{charges_then}
use Rattle.pd_check.specs.Arrays.{kind_reads}
use Rattle.pd_check.proofs.ArrayRules.{arrays_stay}
use Rattle.pd_check.proofs.ArrayReads.{number_stays}
use Rattle.pd_era.specs.Whole.{bits, current_bits, set_tests}
use Rattle.pd_era.proofs.WholeLemmas.{has_bits}
use Rattle.pd_era.proofs.whole.mark_bits.Goals as goal

pub returns-clause-charges : goal.returns-clause-charges
returns-clause-charges g c =
    let graph = g.F.Format.graph c.args.format.now in
    let fields = c.args.fields.now in
    let a = c.args.audit.now in
    let b = c.check_current.new.audit in
    let d = c.mark_writesets.new.audit in
    let held = (g.D.Device.state c.args.dev.now).held in
    let filled = rw c.bits.ensures at c.in_ok-fill_marks.ensures.marked in
    ok_maps c.mark_writesets.result _ _ (λ charges.
    if_then held (g.D.Device.state c.fill_marks.new.dev).held _ _ _ c.fill_marks.ensures.kept.held
    (λ image marks_told sets_charged ready counted.
    let has = has_bits graph image a ready.era in
    let marked = marks_told has counted in
    charges_then (flat_map (array_whole graph image) (current_bits fields.current_bits fields.current_root)) (set_tests graph image (reached_writesets graph image)) a b d
    (c.check_current.ensures.charges graph image has marked ready.roots.current)
    (sets_charged graph (arrays_stay graph image a b bits c.check_current.ensures.rules has) ready.era.trees marked))
    filled charges) c.mark_writesets.ensures.charges

pub returns-in_err-fill_marks-clause-reads : goal.returns-in_err-fill_marks-clause-reads
returns-in_err-fill_marks-clause-reads g c = omega (arith, c.in_err-fill_marks.ensures.reads, ap (kind_reads c.args.audit.now) c.bits.ensures)

pub returns-clause-reads : goal.returns-clause-reads
returns-clause-reads g c =
    let a = c.args.audit.now in
    let b = c.check_current.new.audit in
    omega (
      arith,
      c.in_ok-fill_marks.ensures.reads,
      c.mark_writesets.ensures.reads,
      ap (kind_reads a) c.bits.ensures,
      ap (number_in b 2) c.check_current.ensures.rules.number ∙ number_stays a b 2 (blocks_of a) c.check_current.ensures.rules,
    )
