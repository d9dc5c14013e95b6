use Rattle.std.proofs.Common.{◌≡◌, ℕ, IfSome, ap, ◌∙◌, subst}
use Rattle.std.proofs.lemmas.Result.{on_ok_weaker}
use Rattle.pd_kinds.proofs.ResultLemmas.{if_both}
use Rattle.pd_graph.specs.Notes.{size_of}
use Rattle.pd_laid.specs.FoundRoots.{lost_graph}
use Rattle.pd_scan.specs.declared.trees.LostTrees.{LostTrees}
use Rattle.pd_scan.specs.Numbers.{AreTold, AreTopsNumbered}
use Rattle.pd_scan.proofs.NumberLemmas.{numbers_fit, on_both, pairs_same, told_by_details, told_of}
use Rattle.pd_scan.proofs.numbering.number_lists.Goals as goal

pub returns-clause-pairs : goal.returns-clause-pairs
returns-clause-pairs g c =
    on_ok_weaker c.number_tops.result (λ is. pairs_same c.args.trees.now c.number_details.new.trees c.number_tops.new.trees c.in_ok-numbers.ensures.measures is) c.number_tops.ensures.measures

pub returns-clause-fits : goal.returns-clause-fits
returns-clause-fits g c =
    let old = c.args.trees.now in
    let middle = c.number_details.new.trees in
    let new = c.number_tops.new.trees in
    let first = c.in_ok-numbers.ensures.measures in
    let size : size_of middle.tops ≡ size_of old.tops = ap (λ (t : LostTrees). size_of t.tops) first.same in
    on_both c.number_tops.result _ _ _
    (λ told second. if_both (g.D.Device.state c.args.dev.now).held
    (λ image details tops data_blocks are top other.
    let graph = lost_graph image data_blocks in
    let knows = told_of image data_blocks old are in
    numbers_fit old middle new first second image data_blocks c.in_ok-numbers.numbers are (details data_blocks knows)
    (subst (λ n. AreTopsNumbered graph image c.in_ok-numbers.numbers n n new.top_measures) size (tops data_blocks (told_by_details graph image old middle knows first)))
    (λ t d sound two. c.fitting_trees_have_one_list.ensures.fitting image data_blocks t d sound two) top other)
    c.in_ok-numbers.ensures.numbered
    (subst (λ o. IfSome o (λ image. (data_blocks : ℕ) → AreTold (lost_graph image data_blocks) image middle
    → AreTopsNumbered (lost_graph image data_blocks) image c.in_ok-numbers.numbers (size_of middle.tops) (size_of middle.tops) new.top_measures))
    c.in_ok-numbers.ensures.kept.held told))
    c.number_tops.ensures.numbered c.number_tops.ensures.measures

pub returns-clause-tops : goal.returns-clause-tops
returns-clause-tops g c =
    on_ok_weaker c.number_tops.result
    (λ is. ap (λ (t : LostTrees). t.tops) is.same ∙ ap (λ (t : LostTrees). t.tops) c.in_ok-numbers.ensures.measures.same) c.number_tops.ensures.measures
