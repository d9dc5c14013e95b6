use Rattle.std.proofs.Common.{ℕ, IfOk, IfSome, sym, ◌∙◌, ap, subst}
use Rattle.std.specs.List.{AllByRecursion}
use Rattle.std.proofs.lemmas.Result.{IfOk-weaker}
use Rattle.pd_kinds.specs.Graph.{Graph}
use Rattle.pd_kinds.proofs.ResultLemmas.{if_both}
use Rattle.pd_laid.specs.FoundRoots.{lost_graph}
use Rattle.pd_scan.specs.declared.states.State.{State}
use Rattle.pd_scan.specs.Pairs.{AreTreesOf}
use Rattle.pd_scan.specs.Pairs.{AreInside}
use Rattle.pd_scan.specs.Pairs.{AreFoundStates}
use Rattle.pd_scan.specs.Lost.{AreLostTrees}
use Rattle.pd_scan.proofs.FitLemmas.{places_by}
use Rattle.pd_scan.proofs.states.find_states_in.Goals as goal

pub choose_states-requires-clause-places : goal.choose_states-requires-clause-places
choose_states-requires-clause-places g c = places_by (g.F.Format.graph c.args.format.now).nr c.in_ok-trees.trees c.in_ok-trees.ensures.places

pub returns-clause-found : goal.returns-clause-found
returns-clause-found g c =
    let trees = c.in_ok-trees.trees in
    let places = c.in_ok-trees.ensures.places in
    IfOk-weaker c.choose_states.result _ _
    (λ found told. if_both (g.D.Device.state c.args.dev.now).held
    (λ image is lost data_blocks e.
    is data_blocks
    (record {
      number = sym (ap (λ (graph : Graph). graph.nr) e) ∙ sym places.tops;
      places = places.details ∙ sym places.tops;
      told = subst (λ (graph : Graph). AreLostTrees graph image trees) e lost;
    }))
    (subst (λ o. IfSome o (λ image. (data_blocks : ℕ) → AreTreesOf image data_blocks trees → AreFoundStates (lost_graph image data_blocks) image found))
    c.in_ok-trees.ensures.kept.held told)
    c.in_ok-trees.ensures.trees)
    c.choose_states.ensures.found

pub returns-clause-inside : goal.returns-clause-inside
returns-clause-inside g c =
    subst (λ (n : ℕ). IfOk c.choose_states.result (λ found. AllByRecursion (λ (s : State). AreInside n s.roots) found.best.items))
    c.in_ok-trees.ensures.places.tops c.choose_states.ensures.inside
