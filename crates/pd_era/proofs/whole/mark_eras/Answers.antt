use Rattle.std.proofs.Common.{ap, arith, [], ◌∷◌}
use Rattle.std.specs.List.{flat_map}
use Rattle.pd_kinds.specs.Whole.{array_whole}
use Rattle.pd_kinds.proofs.ResultLemmas.{if_then}
use Rattle.pd_check.proofs.RefsLemmas.{ok_maps}
use Rattle.pd_check.proofs.SharedLemmas.{charges_then}
use Rattle.pd_check.specs.Arrays.{array_of}
use Rattle.pd_check.specs.Arrays.{kind_reads}
use Rattle.pd_check.proofs.ArrayRules.{arrays_stay}
use Rattle.pd_era.specs.Whole.{eras, snap_eras}
use Rattle.pd_era.proofs.WholeLemmas.{has_eras}
use Rattle.pd_era.proofs.whole.mark_eras.Goals as goal

pub returns-clause-charges : goal.returns-clause-charges
returns-clause-charges g c =
    let graph = g.F.Format.graph c.args.format.now in
    let fields = c.args.fields.now in
    let a = c.args.audit.now in
    let b = c.check_array.new.audit in
    let d = c.mark_snap.new.audit in
    let held = (g.D.Device.state c.args.dev.now).held in
    let filled = rw c.eras.ensures at c.in_ok-fill_marks.ensures.marked in
    ok_maps c.mark_snap.result _ _ (λ charges.
    if_then held (g.D.Device.state c.fill_marks.new.dev).held _ _ _ c.fill_marks.ensures.kept.held
    (λ image marks_told snap_charged ready counted.
    let has = has_eras graph image a ready.era in
    let marked = marks_told has counted in
    let charged = rw c.from-words.ensures at (rw c.eras-2.ensures at (c.check_array.ensures.charges graph image)) in
    charges_then (array_whole graph image (array_of eras fields.array_root (fields.blocks ∷ []))) (flat_map (array_whole graph image) (snap_eras image fields.snap_root)) a b d
    (charged has marked ready.roots.eras)
    (snap_charged graph (arrays_stay graph image a b eras c.check_array.ensures.rules has) marked ready.snap))
    filled charges) c.mark_snap.ensures.charges

pub returns-in_err-fill_marks-clause-reads : goal.returns-in_err-fill_marks-clause-reads
returns-in_err-fill_marks-clause-reads g c = omega (arith, c.in_err-fill_marks.ensures.reads, ap (kind_reads c.args.audit.now) c.eras.ensures)

pub returns-clause-reads : goal.returns-clause-reads
returns-clause-reads g c =
    omega (arith, c.in_ok-fill_marks.ensures.reads, c.mark_snap.ensures.reads, ap (kind_reads c.args.audit.now) c.eras.ensures)

pub returns-clause-blocks : goal.returns-clause-blocks
returns-clause-blocks g c = rw c.eras.ensures at c.fill_marks.ensures.blocks

pub returns-in_err-fill_marks-clause-blocks : goal.returns-in_err-fill_marks-clause-blocks
returns-in_err-fill_marks-clause-blocks g c = rw c.eras.ensures at c.fill_marks.ensures.blocks
