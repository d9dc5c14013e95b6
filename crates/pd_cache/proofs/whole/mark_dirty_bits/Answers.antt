use Rattle.std.proofs.Common.{◌+◌, ◌/◌, [], ◌∷◌, eq-eqb}
use Rattle.std.proofs.lemmas.Bool.{ne_eqb}
use Rattle.pd_kinds.specs.Whole.{array_whole}
use Rattle.pd_kinds.proofs.ResultLemmas.{if_all, if_maps}
use Rattle.pd_check.proofs.RefsLemmas.{ok_maps}
use Rattle.pd_check.proofs.SharedLemmas.{charges_none}
use Rattle.pd_check.specs.Arrays.{array_of}
use Rattle.pd_cache.specs.Whole.{dirty_bits}
use Rattle.pd_check.proofs.ArrayRules.{one_array}
use Rattle.pd_cache.proofs.whole.mark_dirty_bits.Goals as goal

pub returns-then-has_bits-clause-charges : goal.returns-then-has_bits-clause-charges
returns-then-has_bits-clause-charges g c =
    let fields = c.args.fields.now in
    ok_maps c.mark_array.result _ _ (λ charges.
    if_maps (g.D.Device.state c.args.dev.now).held _ _ (λ image charged has counted reached.
    rw (eq-eqb fields.version 2 c.if-has_bits.true)
    (one_array (array_whole (g.F.Format.graph c.args.format.now) image) (array_of dirty_bits fields.dirty_root ((fields.blocks + 63) / 64 ∷ [])) c.args.audit.now c.mark_array.new.audit
    (charged has counted (reached c.if-has_bits.true)))) charges) (rw c.dirty_words-words.ensures at (rw c.dirty_bits.ensures at c.mark_array.ensures.charges))

pub returns-clause-charges : goal.returns-clause-charges
returns-clause-charges g c =
    if_all (g.D.Device.state c.args.dev.now).held _ (λ image has counted reached.
    rw (ne_eqb c.args.fields.now.version 2 c.if-has_bits.false) (charges_none c.args.audit.now))
