use Rattle.std.proofs.Common.{◌≡◌, ◌+◌, ◌<◌, sym, subst}
use Rattle.pd_scan.specs.Pairs.{IsBestOf, may_fit, pair_of_trees}
use Rattle.pd_scan.specs.Pairs.{found_of}
use Rattle.pd_scan.proofs.PairLemmas.{best_of_both, one_top}
use Rattle.pd_scan.proofs.partners.best_of_tops.Goals as goal

pub loop-top-preserved : goal.loop-top-preserved
loop-top-preserved c =
    let fits = may_fit c.args.trees.now in
    let pair = pair_of_trees c.args.trees.now in
    subst (IsBestOf fits pair (λ t d. t < c.loop-top.top + 1)) (sym c.better-best.ensures)
    (best_of_both fits pair (λ t d. t < c.loop-top.top) (λ t d. t ≡ c.loop-top.top) (λ t d. t < c.loop-top.top + 1) (λ t d. one_top c.loop-top.top t)
    (found_of c.loop-top.best) (found_of c.best_of_top.result) c.loop-top.invariant c.best_of_top.ensures.best)
