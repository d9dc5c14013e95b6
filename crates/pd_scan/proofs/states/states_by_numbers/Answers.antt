use Rattle.std.proofs.Common.{sym, ◌∙◌}
use Rattle.std.proofs.lemmas.Option.{IfSome_then}
use Rattle.pd_scan.proofs.StateLemmas.{states_found, states_inside}
use Rattle.pd_scan.proofs.states.states_by_numbers.Goals as goal

pub returns-clause-found : goal.returns-clause-found
returns-clause-found g c =
    let old = c.args.trees.now in
    let new = c.number_lists.new.trees in
    let numbered = c.in_ok-number_lists.ensures in
    IfSome_then (g.D.Device.state c.args.dev.now).held numbered.fits (λ image fits data_blocks are.
    states_found image data_blocks old new are numbered.tops numbered.places.details (fits data_blocks are)
    (λ t d e. c.fitting_trees_match.ensures.roots image data_blocks old t d are e ∙ sym (numbered.pairs t d))
    c.in_ok-states_of_trees.field-0 c.in_ok-states_of_trees.ensures)

pub returns-clause-inside : goal.returns-clause-inside
returns-clause-inside g c =
    let places = c.in_ok-number_lists.ensures.places in
    states_inside c.number_lists.new.trees _ places.tops places.details c.in_ok-states_of_trees.field-0.best.items c.in_ok-states_of_trees.ensures.each
