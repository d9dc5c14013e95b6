use Rattle.std.proofs.Common.{◌==◌, ◌∷◌, [], ◌++◌, List, ap, ◌∙◌, subst, arith}
use Rattle.std.specs.List.{flat_map}
use Rattle.pd_kinds.specs.Whole.{WholeTest, array_whole, bitmap_tests, reached_writesets}
use Rattle.pd_kinds.proofs.ResultLemmas.{if_then}
use Rattle.pd_graph.specs.Audit.{blocks_of}
use Rattle.pd_check.specs.Refs.{number_in}
use Rattle.pd_check.proofs.RefsLemmas.{ok_maps}
use Rattle.pd_check.specs.Known.{Charges}
use Rattle.pd_check.proofs.SharedLemmas.{charges_then, keeps_both}
use Rattle.pd_check.specs.Arrays.{array_of}
use Rattle.pd_check.proofs.ArrayReads.{kind_stays, number_stays}
use Rattle.pd_era.specs.Whole.{arrays_named, bits, current_bits, eras, set_tests, snap_eras, tests_named}
use Rattle.pd_era.proofs.WholeLemmas.{arrays_tests, ready_stays}
use Rattle.pd_era.proofs.whole.mark_era.Goals as goal

pub returns-clause-charges : goal.returns-clause-charges
unfolding tests_named
returns-clause-charges g c =
    let graph = g.F.Format.graph c.args.format.now in
    let fields = c.args.fields.now in
    let a = c.args.audit.now in
    let b = c.mark_shared.new.audit in
    let d = c.mark_eras.new.audit in
    let e = c.mark_bits.new.audit in
    let held = (g.D.Device.state c.args.dev.now).held in
    ok_maps c.mark_bits.result _ _ (λ charges.
    if_then held (g.D.Device.state c.mark_eras.new.dev).held _ _ _ c.mark_eras.ensures.kept.held
    (λ image eras_charged bits_charged ready counted.
    let ready_b = ready_stays graph image fields a b ready c.mark_shared.ensures.charges.kept in
    let ready_d = ready_stays graph image fields b d ready_b c.mark_eras.ensures.rules in
    charges_then (bitmap_tests graph image (λ role. role == 8)) (flat_map (array_whole graph image) (arrays_named graph image fields)) a b e
    (c.mark_shared.ensures.bitmaps graph image ready.era.known)
    (subst (λ (ts : List WholeTest). Charges ts b e) (arrays_tests graph image fields)
    (charges_then (flat_map (array_whole graph image) (array_of eras fields.array_root (fields.blocks ∷ []) ∷ snap_eras image fields.snap_root))
    (flat_map (array_whole graph image) (current_bits fields.current_bits fields.current_root) ++ set_tests graph image (reached_writesets graph image)) b d e
    (eras_charged ready_b counted.0)
    (bits_charged ready_d (c.mark_eras.ensures.blocks graph image bits ready_b.era.known (λ same. omega arith) counted.1.0)))))
    c.in_ok-mark_eras.ensures.charges charges) c.mark_bits.ensures.charges

pub returns-clause-reads : goal.returns-clause-reads
returns-clause-reads g c =
    let a = c.args.audit.now in
    let b = c.mark_shared.new.audit in
    let d = c.mark_eras.new.audit in
    let both = keeps_both a b d c.mark_shared.ensures.charges.kept c.mark_eras.ensures.rules in
    omega (
      arith,
      c.in_ok-mark_eras.ensures.reads,
      c.mark_bits.ensures.reads,
      kind_stays a b eras c.mark_shared.ensures.charges.kept,
      kind_stays a d bits both,
      ap (number_in d 2) both.number ∙ number_stays a d 2 (blocks_of a) both,
    )

pub returns-in_err-mark_eras-clause-reads : goal.returns-in_err-mark_eras-clause-reads
returns-in_err-mark_eras-clause-reads g c =
    omega (arith, c.in_err-mark_eras.ensures.reads, kind_stays c.args.audit.now c.mark_shared.new.audit eras c.mark_shared.ensures.charges.kept)
