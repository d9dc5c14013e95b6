use Rattle.std.proofs.Common.{◌≡◌, cond, nat_eq, sym, ◌∙◌, ap, ap₂}
use Rattle.std.specs.BTreeMap.{get}
use Rattle.std.specs.Option.{unwrap_or}
use Rattle.std.proofs.lemmas.Option.{IfSome_then}
use Rattle.pd_kinds.proofs.ResultLemmas.{if_any}
use Rattle.pd_graph.specs.Notes.{size_of}
use Rattle.pd_laid.specs.FoundRoots.{lost_graph}
use Rattle.pd_measures.specs.declared.measures.Measured.{Measured}
use Rattle.pd_measures.specs.Measured.{measure_at}
use Rattle.pd_measures.proofs.SoundLemmas.{root_inside}
use Rattle.pd_scan.specs.Numbers.{list_cmp, with_number}
use Rattle.pd_scan.proofs.FitLemmas.{root_good}
use Rattle.pd_scan.proofs.NumberLemmas.{top_numbered, top_passed, unsound}
use Rattle.pd_scan.proofs.numbering.number_top.Goals as goal

pub returns-then-not-is_good-clause-numbered : goal.returns-then-not-is_good-clause-numbered
returns-then-not-is_good-clause-numbered g c =
    if_any (g.D.Device.state c.args.dev.now).held (λ image data_blocks told are.
    let graph = lost_graph image data_blocks in
    top_passed graph image c.args.numbers.now (size_of c.args.trees.now.tops) c.args.top c.args.trees.now.top_measures
    (unsound graph image 2 c.args.trees.now.tops told.tops told.number c.args.top (sym c.is_good.ensures ∙ c.if-not-is_good.true)) are)

pub returns-clause-numbered : goal.returns-clause-numbered
returns-clause-numbered g c =
    IfSome_then (g.D.Device.state c.args.dev.now).held c.in_ok-list.ensures.list (λ image listed data_blocks told are.
    let graph = lost_graph image data_blocks in
    let old = c.args.trees.now.top_measures in
    let top = c.args.top in
    let number = c.unwrap_or-number.result in
    let sound = root_good graph image 2 c.args.trees.now.tops told.tops told.number top (sym c.is_good.ensures ∙ c.if-not-is_good.false) in
    let is : number ≡ unwrap_or (get list_cmp c.args.numbers.now c.in_ok-list.list) (size_of c.args.trees.now.tops) =
    c.unwrap_or-number.ensures ∙ ap₂ unwrap_or (c.copied.ensures ∙ c.get.ensures.value) c.nr.ensures.number in
    top_numbered graph image c.args.numbers.now (size_of c.args.trees.now.tops) top number old c.set.new.self c.in_ok-list.list
    (listed data_blocks sound (told.below top (root_inside graph image 2 top sound) sound)) is
    (λ x. c.set.ensures.measures x
    ∙ ap (λ (m : Measured). cond (nat_eq x top) m (measure_at old x)) (c.numbered.ensures ∙ ap (λ (m : Measured). with_number m number) c.get-measure.ensures))
    are)
