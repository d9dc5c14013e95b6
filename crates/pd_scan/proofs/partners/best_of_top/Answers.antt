use Rattle.std.proofs.Common.{◌≡◌, Some, None, sym, ◌∙◌, ap, subst}
use Rattle.std.specs.BTreeMap.{get}
use Rattle.pd_graph.specs.Notes.{size_of}
use Rattle.pd_laid.specs.FoundRoots.{FoundRoots}
use Rattle.pd_measures.specs.Measured.{measure_at}
use Rattle.pd_scan.specs.Pairs.{IsBest, may_fit, pair_of_trees}
use Rattle.pd_scan.specs.Partners.{ArePartnersBefore, best_partner, is_partner, partner_at, sum_cmp, sum_of, time_at, time_of}
use Rattle.pd_scan.proofs.PairLemmas.{best_of_top, none_of_top, pair_top}
use Rattle.pd_scan.proofs.partners.best_of_top.Goals as goal

pub returns-then-not-is_good-clause-best : goal.returns-then-not-is_good-clause-best
returns-then-not-is_good-clause-best c = none_of_top c.args.trees.now c.args.top (sym c.is_good.ensures ∙ c.if-not-is_good.true)

pub returns-in-None-clause-best : goal.returns-in-None-clause-best
returns-in-None-clause-best c =
    let trees = c.args.trees.now in
    let table = c.args.by_sum.now in
    let asked = sum_of (measure_at trees.top_measures c.args.top) in
    let key : c.sum.result ≡ asked = c.sum.ensures ∙ ap sum_of c.get-measure.ensures in
    best_of_top trees c.args.top (sym c.is_good.ensures ∙ c.if-not-is_good.false) None
    (subst (ArePartnersBefore (is_partner trees.details trees.details_measures asked) (partner_at trees.details_measures) (size_of trees.details))
    (sym (c.in-None.ensures.value ∙ ap (get sum_cmp table) key)) (c.requires.partners asked))

pub returns-in-Some-clause-best : goal.returns-in-Some-clause-best
returns-in-Some-clause-best c =
    let trees = c.args.trees.now in
    let table = c.args.by_sum.now in
    let partners = c.in-Some.partners.now in
    let asked = sum_of (measure_at trees.top_measures c.args.top) in
    let key : c.sum.result ≡ asked = c.sum.ensures ∙ ap sum_of c.get-measure.ensures in
    let time : c.time.result ≡ time_at trees.top_measures c.args.top = c.time.ensures ∙ ap time_of c.get-measure.ensures in
    let root : c.best.result ≡ best_partner partners (time_at trees.top_measures c.args.top) = c.best.ensures ∙ ap (best_partner partners) time in
    subst (IsBest (may_fit trees) (pair_of_trees trees) (λ t d. t ≡ c.args.top)) (sym (c.pair.ensures ∙ ap (pair_of_trees trees c.args.top) root))
    (best_of_top trees c.args.top (sym c.is_good.ensures ∙ c.if-not-is_good.false) (Some partners)
    (subst (ArePartnersBefore (is_partner trees.details trees.details_measures asked) (partner_at trees.details_measures) (size_of trees.details))
    (sym (c.in-Some.ensures.value ∙ ap (get sum_cmp table) key)) (c.requires.partners asked)))

pub returns-in-Some-clause-own : goal.returns-in-Some-clause-own
returns-in-Some-clause-own c = ap (λ (r : FoundRoots). r.top) c.pair.ensures ∙ pair_top c.args.trees.now c.args.top c.best.result
