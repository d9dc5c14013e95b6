use Rattle.std.proofs.Common.{[], eq-eqb}
use Rattle.std.proofs.lemmas.Bool.{ne_eqb}
use Rattle.pd_kinds.specs.Whole.{array_whole}
use Rattle.pd_kinds.proofs.ResultLemmas.{if_all, if_maps}
use Rattle.pd_check.proofs.RefsLemmas.{ok_maps}
use Rattle.pd_check.proofs.SharedLemmas.{charges_none}
use Rattle.pd_check.specs.Arrays.{array_of}
use Rattle.pd_check.proofs.ArrayRules.{one_array}
use Rattle.pd_cache.proofs.whole.mark_optional.Goals as goal

pub returns-then-root-eq0-clause-charges : goal.returns-then-root-eq0-clause-charges
returns-then-root-eq0-clause-charges g c =
    if_all (g.D.Device.state c.args.dev.now).held _ (λ image has counted reached.
    rw (eq-eqb c.args.root 0 c.if-root-eq0.true) (charges_none c.args.audit.now))

pub returns-clause-charges : goal.returns-clause-charges
returns-clause-charges g c =
    ok_maps c.mark_array.result _ _ (λ charges.
    if_maps (g.D.Device.state c.args.dev.now).held _ _ (λ image charged has counted reached.
    rw (ne_eqb c.args.root 0 c.if-root-eq0.false)
    (one_array (array_whole (g.F.Format.graph c.args.format.now) image) (array_of c.args.roles c.args.root []) c.args.audit.now c.mark_array.new.audit
    (charged has counted (reached c.if-root-eq0.false)))) charges) c.mark_array.ensures.charges
