use Rattle.std.proofs.Common.{◌≡◌, false, [], ◌∷◌, List, ap, sym, ◌∙◌, subst, arith}
use Rattle.pd_kinds.specs.EraFormat.{writeset_root}
use Rattle.pd_kinds.specs.Node.{Entry, is_inner_node}
use Rattle.pd_kinds.specs.Stages.{IsReached}
use Rattle.pd_kinds.specs.Whole.{array_whole, writeset_array}
use Rattle.pd_value.specs.declared.era.Writeset.{Writeset}
use Rattle.pd_check.specs.Known.{Charges}
use Rattle.pd_check.proofs.SharedLemmas.{keeps_both, keeps_none}
use Rattle.pd_check.proofs.ArrayRules.{arrays_stay}
use Rattle.pd_era.specs.Whole.{bits, first_sets, set_tests}
use Rattle.pd_era.proofs.SetLemmas.{first_at, first_more, first_none, leaf_is, no_leaf, set_at, set_one, sets_none, sets_then}
use Rattle.pd_era.proofs.writesets.check_leaf.Goals as goal

pub returns-then-is_inner-clause-charges : goal.returns-then-is_inner-clause-charges
returns-then-is_inner-clause-charges c = λ graph image has marked leads.
    rw (no_leaf c.args.block.now.0 (sym c.is_inner.ensures ∙ c.if-is_inner.true)) (sets_none graph image c.args.audit.now)

pub loop-i-init : goal.loop-i-init
loop-i-init c = record {
  charges = λ graph image has marked leads. rw (first_none c.args.block.now.0) (sets_none graph image c.args.audit.now);
  rules = keeps_none c.args.audit.now;
}

pub loop-i-preserved : goal.loop-i-preserved
loop-i-preserved c =
    let block = c.args.block.now.0 in
    let i = c.loop-i.i in
    let a = c.args.audit.now in
    let m = c.loop-i.audit in
    let n = c.check_writeset.new.audit in
    let leaf : is_inner_node block ≡ false = sym c.is_inner.ensures ∙ c.if-is_inner.false in
    let within = c.loop-i-test.true in
    let most = c.entries-count.ensures in
    record {
      charges = λ graph image has marked leads.
          let all = rw (leaf_is block leaf) at leads in
          let at = first_at (λ (e : Entry). IsReached graph image (writeset_root e.value) 3) block _ i all (omega arith) in
          let reached = subst (λ (s : Writeset). IsReached graph image s.root 3) (sym c.value-set.ensures.value) at in
          let charged = c.check_writeset.ensures.charges graph image (arrays_stay graph image a m bits c.loop-i.invariant.rules has) marked reached in
          let here = subst (λ (s : Writeset). Charges (array_whole graph image (writeset_array s.bits s.root)) m n) c.value-set.ensures.value charged in
          rw (first_more block i)
          (sets_then graph image (first_sets block i) (set_at block i ∷ []) a m n (c.loop-i.invariant.charges graph image has marked leads)
          (set_one graph image (set_at block i) m n here));
      rules = keeps_both a m n c.loop-i.invariant.rules c.check_writeset.ensures.rules;
    }

pub returns-clause-charges : goal.returns-clause-charges
returns-clause-charges c = λ graph image has marked leads.
    let block = c.args.block.now.0 in
    let last = c.loop-i-test.false in
    let most = c.loop-i.auto.i-end in
    let end : c.loop-i.i ≡ c.entries-count.result = omega arith in
    let all = ap (first_sets block) (end ∙ c.entries-count.ensures) ∙ sym (leaf_is block (sym c.is_inner.ensures ∙ c.if-is_inner.false)) in
    subst (λ (es : List Entry). Charges (set_tests graph image es) c.args.audit.now c.loop-i.audit) all (c.loop-i.invariant.charges graph image has marked leads)
