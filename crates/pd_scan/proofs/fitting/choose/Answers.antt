use Rattle.std.proofs.Common.{◌<◌, None, subst}
use Rattle.std.proofs.lemmas.Option.{IfSome_then}
use Rattle.std.proofs.lemmas.Result.{IfOk-weaker}
use Rattle.pd_kinds.proofs.ResultLemmas.{if_any}
use Rattle.pd_graph.specs.Notes.{size_of}
use Rattle.pd_laid.specs.FoundRoots.{are_fitting, lost_graph}
use Rattle.pd_scan.specs.Pairs.{AreTreesOf, IsBestOf, may_fit, pair_of_trees}
use Rattle.pd_scan.specs.Pairs.{found_of}
use Rattle.pd_scan.proofs.PairLemmas.{none_of_fewer}
use Rattle.pd_scan.proofs.FitLemmas.{is_found}
use Rattle.pd_scan.proofs.fitting.choose.Goals as goal

pub returns-in-Ok-Some-clause-found : goal.returns-in-Ok-Some-clause-found
returns-in-Ok-Some-clause-found g c =
    let trees = c.args.trees in
    IfOk-weaker c.best_of_fitting.result _ _
    (λ found told. IfSome_then (g.D.Device.state c.args.dev.now).held told (λ image best data_blocks number lost.
    let are : AreTreesOf image data_blocks trees = record { number = number; places = c.requires.places.details; told = lost } in
    is_found image data_blocks trees are (λ t d e. c.fitting_trees_match.ensures.roots image data_blocks trees t d are e) (found_of found) (best data_blocks are)))
    c.best_of_fitting.ensures.best

pub returns-in-Ok-None-clause-found : goal.returns-in-Ok-None-clause-found
returns-in-Ok-None-clause-found g c =
    let trees = c.args.trees in
    if_any (g.D.Device.state c.args.dev.now).held (λ image data_blocks number lost.
    let are : AreTreesOf image data_blocks trees = record { number = number; places = c.requires.places.details; told = lost } in
    is_found image data_blocks trees are (λ t d e. c.fitting_trees_match.ensures.roots image data_blocks trees t d are e) None
    (none_of_fewer (may_fit trees) (are_fitting (lost_graph image data_blocks) image) (pair_of_trees trees) (λ t d. t < size_of trees.tops)
    (λ t d e. c.fitting_trees_match.ensures.fits image data_blocks trees t d are e)
    (subst (λ found. IsBestOf (may_fit trees) (pair_of_trees trees) (λ t d. t < size_of trees.tops) (found_of found)) c.in-Ok-None.field-0-is c.in-Ok-None.ensures)))
