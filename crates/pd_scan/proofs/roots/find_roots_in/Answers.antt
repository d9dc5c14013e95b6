use Rattle.std.proofs.Common.{◌≡◌, ℕ, IfOk, IfSome, sym, ◌∙◌, ap, subst}
use Rattle.std.proofs.lemmas.Result.{IfOk-weaker}
use Rattle.pd_kinds.specs.Graph.{Graph}
use Rattle.pd_kinds.proofs.ResultLemmas.{if_both}
use Rattle.pd_graph.specs.Notes.{size_of}
use Rattle.pd_laid.specs.FoundRoots.{IsFound, lost_graph}
use Rattle.pd_scan.specs.Pairs.{AreInside, found_of}
use Rattle.pd_scan.specs.Lost.{AreLostTrees}
use Rattle.pd_scan.proofs.FitLemmas.{places_by}
use Rattle.pd_scan.proofs.roots.find_roots_in.Goals as goal

pub choose-requires-clause-places : goal.choose-requires-clause-places
choose-requires-clause-places g c = places_by (g.F.Format.graph c.args.format.now).nr c.in_ok-trees.trees c.in_ok-trees.ensures.places

pub returns-clause-found : goal.returns-clause-found
returns-clause-found g c =
    let trees = c.in_ok-trees.trees in
    let places = c.in_ok-trees.ensures.places.tops in
    IfOk-weaker c.choose.result _ _
    (λ found told. if_both (g.D.Device.state c.args.dev.now).held
    (λ image is lost data_blocks e.
    is data_blocks (sym (ap (λ (graph : Graph). graph.nr) e) ∙ sym places) (subst (λ (graph : Graph). AreLostTrees graph image trees) e lost))
    (subst (λ o. IfSome o (λ image. (data_blocks : ℕ) → (lost_graph image data_blocks).nr ≡ size_of trees.tops → AreLostTrees (lost_graph image data_blocks) image trees
    → IsFound (lost_graph image data_blocks) image (found_of found))) c.in_ok-trees.ensures.kept.held told)
    c.in_ok-trees.ensures.trees)
    c.choose.ensures.found

pub returns-clause-inside : goal.returns-clause-inside
returns-clause-inside g c =
    subst (λ (n : ℕ). IfOk c.choose.result (λ found. IfSome found (AreInside n))) c.in_ok-trees.ensures.places.tops c.choose.ensures.inside
