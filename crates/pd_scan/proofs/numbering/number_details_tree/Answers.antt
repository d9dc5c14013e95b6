use Rattle.std.proofs.Common.{cond, nat_eq, sym, ◌∙◌, ap}
use Rattle.std.proofs.lemmas.Option.{IfSome_then}
use Rattle.pd_kinds.proofs.ResultLemmas.{if_any}
use Rattle.pd_laid.specs.FoundRoots.{lost_graph}
use Rattle.pd_measures.specs.declared.measures.Measured.{Measured}
use Rattle.pd_measures.specs.Measured.{measure_at}
use Rattle.pd_scan.specs.Numbers.{with_number}
use Rattle.pd_scan.proofs.FitLemmas.{root_good}
use Rattle.pd_scan.proofs.NumberLemmas.{details_numbered, details_passed, unsound}
use Rattle.pd_scan.proofs.numbering.number_details_tree.Goals as goal

pub returns-then-not-is_good-clause-numbered : goal.returns-then-not-is_good-clause-numbered
returns-then-not-is_good-clause-numbered g c =
    if_any (g.D.Device.state c.args.dev.now).held (λ image data_blocks told are.
    let graph = lost_graph image data_blocks in
    details_passed graph image c.args.trees.now.details_measures c.args.b c.args.numbers.now
    (unsound graph image 4 c.args.trees.now.details told.details (told.number ∙ sym told.places) c.args.b (sym c.is_good.ensures ∙ c.if-not-is_good.true)) are)

pub returns-clause-numbered : goal.returns-clause-numbered
returns-clause-numbered g c =
    IfSome_then (g.D.Device.state c.args.dev.now).held c.in_ok-list.ensures.list (λ image listed data_blocks told are.
    let graph = lost_graph image data_blocks in
    let old = c.args.trees.now.details_measures in
    let b = c.args.b in
    let sound = root_good graph image 4 c.args.trees.now.details told.details (told.number ∙ sym told.places) b (sym c.is_good.ensures ∙ c.if-not-is_good.false) in
    details_numbered graph image old c.set.new.self c.args.numbers.now c.number_of.new.numbers c.in_ok-list.list b c.in_ok-number.number (listed data_blocks sound)
    (λ x. c.set.ensures.measures x
    ∙ ap (λ (m : Measured). cond (nat_eq x b) m (measure_at old x)) (c.numbered.ensures ∙ ap (λ (m : Measured). with_number m c.in_ok-number.number) c.get-measure.ensures))
    are c.in_ok-number.ensures)
