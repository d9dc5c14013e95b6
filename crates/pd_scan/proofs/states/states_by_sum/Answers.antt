use Rattle.std.proofs.Common.{◌≡◌, ℕ, ◌-◌, List, length, sym, subst, arith}
use Rattle.std.specs.List.{range_with_len}
use Rattle.pd_scan.specs.Pairs.{AreStatesOf}
use Rattle.pd_scan.proofs.StateLemmas.{few_states, one_more}
use Rattle.std.proofs.lemmas.List.FromFn.{length-range_with_len}
use Rattle.pd_scan.proofs.states.states_by_sum.Goals as goal

pub loop-passed-preserved : goal.loop-passed-preserved
loop-passed-preserved c =
    let nr = c.nr-nr.result in
    let passed = c.loop-passed.passed in
    subst (λ (tops : List ℕ). AreStatesOf c.args.trees.now tops c.put_best_of_top.new.found) (sym (one_more nr passed c.loop-passed-test.true))
    (c.in_ok-put_best_of_top.ensures (range_with_len (nr - passed) passed) c.loop-passed.invariant)

pub put_best_of_top-requires-clause-few : goal.put_best_of_top-requires-clause-few
put_best_of_top-requires-clause-few c =
    let nr = c.nr-nr.result in
    let passed = c.loop-passed.passed in
    let tops = range_with_len (nr - passed) passed in
    let few = few_states c.args.trees.now 0 tops c.loop-passed.found c.loop-passed.invariant in
    let number : length tops ≡ passed = length-range_with_len (nr - passed) passed in
    let less = c.loop-passed-test.true in
    omega arith
