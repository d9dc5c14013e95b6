use Rattle.std.proofs.Common.{◌++◌, [], ◌∷◌, List, ap, ◌∙◌, subst, arith}
use Rattle.std.specs.List.{flat_map}
use Rattle.pd_kinds.specs.Whole.{WholeTest, array_whole, optional_array}
use Rattle.pd_kinds.proofs.ResultLemmas.{if_then}
use Rattle.pd_check.proofs.RefsLemmas.{ok_maps}
use Rattle.pd_check.specs.Known.{Charges}
use Rattle.pd_check.proofs.SharedLemmas.{charges_then, keeps_both}
use Rattle.pd_check.specs.Arrays.{array_of}
use Rattle.pd_check.specs.Arrays.{kind_reads}
use Rattle.pd_check.proofs.ArrayReads.{kind_stays}
use Rattle.pd_cache.specs.Whole.{discards, dirty_arrays, dirty_bits, hints, mappings}
use Rattle.pd_cache.proofs.WholeLemmas.{arrays_tests, has_dirty_bits, has_discards, has_hints, has_mappings, if_both, ready_stays}
use Rattle.pd_cache.proofs.whole.mark_arrays.Goals as goal

pub returns-in_err-mark_optional-clause-reads : goal.returns-in_err-mark_optional-clause-reads
returns-in_err-mark_optional-clause-reads g c =
    omega (
      arith,
      c.in_ok-mark_array.ensures.reads,
      c.in_err-mark_optional.ensures.reads,
      ap (kind_reads c.args.audit.now) c.mappings.ensures,
      ap (kind_reads c.mark_array.new.audit) c.hints.ensures,
      kind_stays c.args.audit.now c.mark_array.new.audit hints c.mark_array.ensures.rules,
    )

pub returns-in_err-mark_optional-2-clause-reads : goal.returns-in_err-mark_optional-2-clause-reads
returns-in_err-mark_optional-2-clause-reads g c =
    let later = keeps_both c.args.audit.now c.mark_array.new.audit c.mark_optional.new.audit c.mark_array.ensures.rules c.mark_optional.ensures.rules in
    omega (
      arith,
      c.in_ok-mark_array.ensures.reads,
      c.in_ok-mark_optional.ensures.reads,
      c.in_err-mark_optional-2.ensures.reads,
      ap (kind_reads c.args.audit.now) c.mappings.ensures,
      ap (kind_reads c.mark_array.new.audit) c.hints.ensures,
      ap (kind_reads c.mark_optional.new.audit) c.discards.ensures,
      kind_stays c.args.audit.now c.mark_array.new.audit hints c.mark_array.ensures.rules,
      kind_stays c.args.audit.now c.mark_optional.new.audit discards later,
    )

pub returns-clause-reads : goal.returns-clause-reads
returns-clause-reads g c =
    let later = keeps_both c.args.audit.now c.mark_array.new.audit c.mark_optional.new.audit c.mark_array.ensures.rules c.mark_optional.ensures.rules in
    let latest = keeps_both c.args.audit.now c.mark_optional.new.audit c.mark_optional-2.new.audit later c.mark_optional-2.ensures.rules in
    omega (
      arith,
      c.in_ok-mark_array.ensures.reads,
      c.in_ok-mark_optional.ensures.reads,
      c.in_ok-mark_optional-2.ensures.reads,
      c.mark_dirty_bits.ensures.reads,
      ap (kind_reads c.args.audit.now) c.mappings.ensures,
      ap (kind_reads c.mark_array.new.audit) c.hints.ensures,
      ap (kind_reads c.mark_optional.new.audit) c.discards.ensures,
      kind_stays c.args.audit.now c.mark_array.new.audit hints c.mark_array.ensures.rules,
      kind_stays c.args.audit.now c.mark_optional.new.audit discards later,
      kind_stays c.args.audit.now c.mark_optional-2.new.audit dirty_bits latest,
    )

pub returns-clause-charges : goal.returns-clause-charges
returns-clause-charges g c =
    let graph = g.F.Format.graph c.args.format.now in
    let fields = c.args.fields.now in
    let a = c.args.audit.now in
    let b = c.mark_array.new.audit in
    let d = c.mark_optional.new.audit in
    let e = c.mark_optional-2.new.audit in
    let f = c.mark_dirty_bits.new.audit in
    let held = (g.D.Device.state c.args.dev.now).held in
    let to_b = rw c.mappings.ensures at c.mark_array.ensures.blocks in
    let to_d = rw c.hints.ensures at c.mark_optional.ensures.blocks in
    let to_e = rw c.discards.ensures at c.mark_optional-2.ensures.blocks in
    let first = rw c.from-words.ensures at (rw c.mappings.ensures at c.in_ok-mark_array.ensures.charges) in
    let second = rw c.hints.ensures at c.in_ok-mark_optional.ensures.charges in
    let third = rw c.discards.ensures at c.in_ok-mark_optional-2.ensures.charges in
    let still = c.mark_optional.ensures.kept.held ∙ c.mark_array.ensures.kept.held in
    ok_maps c.mark_dirty_bits.result _ _ (λ charges.
    if_then held (g.D.Device.state c.mark_optional-2.new.dev).held _ _ _ (c.mark_optional-2.ensures.kept.held ∙ still)
    (λ image charged last ready counted.
    let tests = array_whole graph image in
    let mapped = array_of mappings fields.mapping_root (fields.blocks ∷ []) in
    let hinted = optional_array 3 fields.hint_root 4 [] in
    let discarded = optional_array 5 fields.discard_root 8 [] in
    let dirty = dirty_arrays fields in
    let ready_b = ready_stays graph image fields a b ready c.mark_array.ensures.rules in
    let ready_d = ready_stays graph image fields b d ready_b c.mark_optional.ensures.rules in
    let ready_e = ready_stays graph image fields d e ready_d c.mark_optional-2.ensures.rules in
    let hints_b = to_b graph image hints ready.cache.known (λ same. omega arith) counted.1.0 in
    let discards_b = to_b graph image discards ready.cache.known (λ same. omega arith) counted.1.1.0 in
    let discards_d = to_d graph image discards ready_b.cache.known (λ same. omega arith) discards_b in
    let bits_b = to_b graph image dirty_bits ready.cache.known (λ same. omega arith) counted.1.1.1.0 in
    let bits_d = to_d graph image dirty_bits ready_b.cache.known (λ same. omega arith) bits_b in
    let bits_e = to_e graph image dirty_bits ready_d.cache.known (λ same. omega arith) bits_d in
    subst (λ (ts : List WholeTest). Charges ts a f) (arrays_tests tests mapped hinted discarded dirty)
    (charges_then (tests mapped) (flat_map tests hinted ++ (flat_map tests discarded ++ flat_map tests dirty)) a b f
    (charged.0.0 (has_mappings graph image a ready.cache) counted.0 ready.roots.mappings)
    (charges_then (flat_map tests hinted) (flat_map tests discarded ++ flat_map tests dirty) b d f
    (charged.0.1 (has_hints graph image b ready_b.cache) hints_b ready.roots.hints)
    (charges_then (flat_map tests discarded) (flat_map tests dirty) d e f
    (charged.1 (has_discards graph image d ready_d.cache) discards_d ready.roots.discards)
    (last (has_dirty_bits graph image e ready_e.cache) bits_e ready.roots.dirty_bits)))))
    (if_both held (g.D.Device.state c.mark_optional.new.dev).held _ _ still
    (if_both held (g.D.Device.state c.mark_array.new.dev).held _ _ c.mark_array.ensures.kept.held first second) third)
    charges) c.mark_dirty_bits.ensures.charges
