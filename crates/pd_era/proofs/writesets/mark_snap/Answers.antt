use Rattle.std.proofs.Common.{◌≡◌, ℕ, List, [], Option, ap, sym, ◌∙◌, eq-eqb}
use Rattle.std.specs.Option.{unwrap_or}
use Rattle.std.proofs.lemmas.Bool.{ne_eqb}
use Rattle.pd_kinds.specs.EraFormat.{EraFields, era_fields}
use Rattle.pd_kinds.specs.Graph.{block_at}
use Rattle.pd_kinds.specs.Whole.{array_whole}
use Rattle.pd_kinds.proofs.ResultLemmas.{if_all, if_maps}
use Rattle.pd_check.proofs.SharedLemmas.{charges_none}
use Rattle.pd_check.specs.Arrays.{array_of}
use Rattle.pd_era.specs.Whole.{eras}
use Rattle.pd_check.proofs.ArrayRules.{one_array}
use Rattle.pd_era.proofs.writesets.mark_snap.Goals as goal

pub returns-then-snap-eq0-clause-charges : goal.returns-then-snap-eq0-clause-charges
returns-then-snap-eq0-clause-charges g c =
    if_all (g.D.Device.state c.args.dev.now).held _ (λ image graph has marked reached.
    rw (eq-eqb c.args.snap 0 c.if-snap-eq0.true) (charges_none c.args.audit.now))

pub returns-clause-charges : goal.returns-clause-charges
returns-clause-charges g c =
    let a = c.args.audit.now in
    let b = c.check_array.new.audit in
    if_maps (g.D.Device.state c.args.dev.now).held _ _ (λ image told graph has marked reached.
    let snap = reached c.if-snap-eq0.false in
    let here : block_at image c.args.snap ≡ c.read.new.into.0 = ap (λ (o : Option (List ℕ)). unwrap_or o []) told in
    let root : c.read_era_super-root.result.array_root ≡ (era_fields (block_at image c.args.snap)).array_root =
    ap (λ (f : EraFields). f.array_root) (c.read_era_super-root.ensures ∙ ap era_fields (sym here)) in
    let charged = rw root at (rw c.eras.ensures at (c.check_array.ensures.charges graph image)) in
    rw (ne_eqb c.args.snap 0 c.if-snap-eq0.false)
    (one_array (array_whole graph image) (array_of eras (era_fields (block_at image c.args.snap)).array_root []) a b
    (charged has marked snap.eras))) c.in_ok-read.ensures.content
