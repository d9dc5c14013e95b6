use Rattle.std.proofs.Common.{◌<◌, sym, ◌∙◌, arith}
use Rattle.std.proofs.lemmas.Option.{IfSome_then}
use Rattle.pd_graph.specs.Notes.{size_of}
use Rattle.pd_laid.specs.FoundRoots.{are_fitting, lost_graph}
use Rattle.pd_scan.specs.Pairs.{may_fit, pair_of_trees}
use Rattle.pd_scan.specs.Pairs.{roots_of}
use Rattle.pd_scan.proofs.PairLemmas.{best_of_fewer, fitting_inside}
use Rattle.pd_scan.proofs.fitting.best_from.Goals as goal

pub returns-then-branch-clause-inside : goal.returns-then-branch-clause-inside
returns-then-branch-clause-inside g c =
    let inside = fitting_inside c.args.trees.now c.args.roots.top c.args.roots.details c.requires.best.fitting in
    let top = inside.0 in
    let details = inside.1 in
    let places = c.requires.places.details in
    record { top = omega arith; details = omega arith }

pub returns-then-branch-clause-best : goal.returns-then-branch-clause-best
returns-then-branch-clause-best g c =
    let trees = c.args.trees.now in
    IfSome_then (g.D.Device.state c.args.dev.now).held c.in_ok-fit.ensures.fits (λ image fits data_blocks are.
    best_of_fewer (may_fit trees) (are_fitting (lost_graph image data_blocks) image) (pair_of_trees trees) (λ t d. t < size_of trees.tops)
    (λ t d e. c.fitting_trees_match.ensures.fits image data_blocks trees t d are e) (roots_of c.args.roots) (sym (fits data_blocks are) ∙ c.if-branch.true) c.requires.best)
