use Rattle.std.proofs.Common.{◌<◌}
use Rattle.pd_scan.specs.Pairs.{IsBestOf, may_fit, pair_of_trees}
use Rattle.pd_scan.specs.Pairs.{found_of}
use Rattle.pd_scan.proofs.partners.best_of_tops.Given as goal

-- the best of the mapping trees before this one
abbrev pub invariant-loop-top : goal.invariant-loop-top
invariant-loop-top l = IsBestOf (may_fit l.trees) (pair_of_trees l.trees) (λ t d. t < l.top) (found_of l.best)
