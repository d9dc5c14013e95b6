use Rattle.std.proofs.Common.{◌≡◌, ◌∷◌, [], Bool, ℕ, map, arith, subst, ◌∙◌}
use Rattle.std.specs.List.{range_with_len}
use Rattle.std.proofs.lemmas.List.FromFn.{map-range_with_len_more}
use Rattle.pd_kinds.specs.declared.rule.Rule.TheVariants as r
use Rattle.pd_check.specs.Known.{Charges}
use Rattle.pd_check.specs.Refs.{shared_test, shared_tests}
use Rattle.pd_check.proofs.SharedLemmas.{charges_none, charges_then}
use Rattle.pd_check.proofs.SharedLemmas.{shared_stays, bitmaps_by}
use Rattle.pd_check.proofs.charging.mark_shared.Goals as goal

pub loop-b-init : goal.loop-b-init
loop-b-init c = charges_none c.args.audit.now

pub loop-b-preserved : goal.loop-b-preserved
loop-b-preserved c =
    let b = c.loop-b.b in
    let same = c.has_more-fails.ensures ∙ shared_stays c.args.audit.now c.loop-b.audit c.args.role b c.loop-b.invariant.kept in
    rw (map-range_with_len_more (shared_test c.args.audit.now c.args.role) 0 b b (omega arith))
    (charges_then (map (shared_test c.args.audit.now c.args.role) (range_with_len 0 b)) (shared_test c.args.audit.now c.args.role b ∷ []) c.args.audit.now c.loop-b.audit c.charge.new.audit
    c.loop-b.invariant
    (subst (λ (fails : Bool). Charges (record { block = b; rule = r.Index; fails = fails } ∷ []) c.loop-b.audit c.charge.new.audit) same c.charge.ensures))

-- all blocks were looked at
all_charged : (c : goal.After-loop-b) → Charges (shared_tests c.args.audit.now c.args.role) c.args.audit.now c.loop-b.audit
unfolding shared_tests
all_charged c =
    let last = c.loop-b-test.false in
    let most = c.loop-b.auto.b-end in
    let end : c.loop-b.b ≡ c.nr-b-end.result = omega arith in
    subst (λ (n : ℕ). Charges (map (shared_test c.args.audit.now c.args.role) (range_with_len 0 n)) c.args.audit.now c.loop-b.audit) (end ∙ c.nr-b-end.ensures.number) c.loop-b.invariant

pub returns-clause-charges : goal.returns-clause-charges
returns-clause-charges c = all_charged c

pub returns-clause-bitmaps : goal.returns-clause-bitmaps
returns-clause-bitmaps c = λ graph image known. bitmaps_by graph image c.args.audit.now known c.args.role c.requires c.loop-b.audit (all_charged c)
