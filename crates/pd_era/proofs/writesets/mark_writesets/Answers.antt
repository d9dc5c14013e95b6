use Rattle.std.proofs.Common.{◌≡◌, ◌+◌, ◌-◌, ◌≤◌, List, ap, ◌∙◌, subst, arith, rules}
use Rattle.pd_kinds.specs.Node.{Entry}
use Rattle.pd_kinds.proofs.ResultLemmas.{if_all, if_maps, if_then}
use Rattle.pd_graph.specs.Audit.{blocks_of}
use Rattle.pd_check.specs.Refs.{number_in}
use Rattle.pd_check.proofs.RefsLemmas.{number_grows}
use Rattle.pd_check.specs.Known.{Charges}
use Rattle.pd_check.proofs.SharedLemmas.{keeps_both, keeps_none}
use Rattle.pd_check.proofs.ArrayRules.{arrays_stay}
use Rattle.pd_check.proofs.ArrayReads.{number_stays}
use Rattle.pd_era.specs.Whole.{bits, set_tests, sets_at, sets_before}
use Rattle.pd_era.proofs.SetLemmas.{all_sets, no_sets, sets_more, sets_none, sets_then}
use Rattle.pd_era.proofs.writesets.mark_writesets.Goals as goal

pub loop-b-init : goal.loop-b-init
loop-b-init g c = record {
  charges = if_all (g.D.Device.state c.args.dev.now).held _ (λ image graph has trees marked. rw (no_sets graph image) (sets_none graph image c.args.audit.now));
  reads = omega arith;
  rules = keeps_none c.args.audit.now;
  kept = search rules;
  faults = search rules;
}

pub loop-b-preserved : goal.loop-b-preserved
loop-b-preserved g c =
    let a = c.args.audit.now in
    let m = c.loop-b.audit in
    let n = c.mark_node.new.audit in
    let b = c.loop-b.b in
    record {
      charges =
          if_then (g.D.Device.state c.args.dev.now).held (g.D.Device.state c.loop-b.dev).held _ _ _ c.loop-b.invariant.kept.held
          (λ image before step graph has trees marked.
          rw (sets_more graph image b)
          (sets_then graph image (sets_before graph image b) (sets_at graph image b) a m n (before graph has trees marked)
          (step graph (arrays_stay graph image a m bits c.loop-b.invariant.rules has) trees marked)))
          c.loop-b.invariant.charges c.in_ok-mark_node.ensures.charges;
      reads = omega (arith, c.loop-b.invariant.reads, c.in_ok-mark_node.ensures.reads, number_stays a m 2 b c.loop-b.invariant.rules, number_stays a m 2 (b + 1) c.loop-b.invariant.rules);
      rules = keeps_both a m n c.loop-b.invariant.rules c.mark_node.ensures.rules;
      kept = search rules;
      faults = c.in_ok-mark_node.ensures.faults ∙ c.loop-b.invariant.faults;
    }

pub returns-in_err-mark_node-clause-reads : goal.returns-in_err-mark_node-clause-reads
returns-in_err-mark_node-clause-reads g c =
    let a = c.args.audit.now in
    let m = c.loop-b.audit in
    let b = c.loop-b.b in
    let last : b + 1 + (blocks_of a - (b + 1)) ≡ blocks_of a = omega (arith, c.loop-b-test.true, c.nr-b-end.ensures.number) in
    let grows : number_in a 2 (b + 1) ≤ number_in a 2 (blocks_of a) =
    subst (λ n. number_in a 2 (b + 1) ≤ number_in a 2 n) last (number_grows a 2 (b + 1) (blocks_of a - (b + 1))) in
    omega (arith, c.loop-b.invariant.reads, c.in_err-mark_node.ensures.reads, grows, number_stays a m 2 b c.loop-b.invariant.rules, number_stays a m 2 (b + 1) c.loop-b.invariant.rules)

-- the loop went over all blocks
pub returns-clause-charges : goal.returns-clause-charges
returns-clause-charges g c =
    let a = c.args.audit.now in
    let all : c.loop-b.b ≡ blocks_of a = omega (arith, c.loop-b-test.false, c.loop-b.auto.b-end, c.nr-b-end.ensures.number) in
    if_maps (g.D.Device.state c.args.dev.now).held _ _ (λ image charged graph has trees marked.
    subst (λ (es : List Entry). Charges (set_tests graph image es) a c.loop-b.audit) (ap (sets_before graph image) (all ∙ has.known.number) ∙ all_sets graph image)
    (charged graph has trees marked)) c.loop-b.invariant.charges

pub returns-clause-reads : goal.returns-clause-reads
returns-clause-reads g c =
    let all : c.loop-b.b ≡ blocks_of c.args.audit.now = omega (arith, c.loop-b-test.false, c.loop-b.auto.b-end, c.nr-b-end.ensures.number) in
    rw all at c.loop-b.invariant.reads
