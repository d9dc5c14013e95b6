use Rattle.std.proofs.Common.{ℕ, ◌<◌, subst}
use Rattle.std.proofs.lemmas.Option.{IfSome_then}
use Rattle.pd_graph.specs.Notes.{size_of}
use Rattle.pd_laid.specs.FoundRoots.{are_fitting, lost_graph}
use Rattle.pd_scan.specs.Pairs.{IsBestOf, may_fit, pair_of_trees}
use Rattle.pd_scan.specs.Pairs.{found_of}
use Rattle.pd_scan.proofs.NumberLemmas.{best_alike, best_inside}
use Rattle.pd_scan.proofs.fitting.best_by_numbers.Goals as goal

pub returns-clause-inside : goal.returns-clause-inside
returns-clause-inside g c =
    let new = c.number_lists.new.trees in
    let places = c.in_ok-number_lists.ensures.places in
    best_inside new (size_of c.args.trees.now.tops) (λ t d. t < size_of new.tops) places.tops places.details c.best_of_tops.result c.best_of_tops.ensures

pub returns-clause-best : goal.returns-clause-best
returns-clause-best g c =
    let old = c.args.trees.now in
    let new = c.number_lists.new.trees in
    let places = c.in_ok-number_lists.ensures.places in
    IfSome_then (g.D.Device.state c.args.dev.now).held c.in_ok-number_lists.ensures.fits (λ image fits data_blocks are.
    best_alike (may_fit new) (are_fitting (lost_graph image data_blocks) image) (pair_of_trees new) (pair_of_trees old) (λ t d. t < size_of old.tops)
    (fits data_blocks are) c.in_ok-number_lists.ensures.pairs (found_of c.best_of_tops.result)
    (subst (λ (n : ℕ). IsBestOf (may_fit new) (pair_of_trees new) (λ t d. t < n) (found_of c.best_of_tops.result)) places.tops c.best_of_tops.ensures))
