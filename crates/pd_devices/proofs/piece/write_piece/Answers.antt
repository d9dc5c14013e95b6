use Rattle.std.proofs.Common.{◌≡◌, length, sym, ◌∙◌, arith}
use Rattle.pd_laid.proofs.GatherLemmas.{length-items}
use Rattle.pd_laid.specs.PoolText.{mappings_of_runs}
use Rattle.pd_devices.specs.SharedGrowth.{held_runs, items_of_runs}
use Rattle.pd_devices.proofs.PieceLemmas.{took_all}
use Rattle.pd_devices.proofs.piece.write_piece.Goals as goal

pub returns-clause-wrote : goal.returns-clause-wrote
returns-clause-wrote g c =
    let runs = held_runs c.args.held.now in
    let number : length (items_of_runs runs) ≡ c.args.held.now.number = length-items (mappings_of_runs runs) ∙ sym c.requires.number in
    let takes = c.in_ok-put_runs.ensures.takes in
    let none = c.is_done-done.ensures.sizes (omega (arith, takes.items, c.in_ok-builder.ensures.items, number)) in
    (took_all takes none (c.in_ok-builder.ensures.leaves (omega (arith, c.requires.some)) (items_of_runs runs) number)).0

pub returns-clause-row_is : goal.returns-clause-row_is
returns-clause-row_is g c =
    let runs = held_runs c.args.held.now in
    let number : length (items_of_runs runs) ≡ c.args.held.now.number = length-items (mappings_of_runs runs) ∙ sym c.requires.number in
    let takes = c.in_ok-put_runs.ensures.takes in
    let none = c.is_done-done.ensures.sizes (omega (arith, takes.items, c.in_ok-builder.ensures.items, number)) in
    (took_all takes none (c.in_ok-builder.ensures.leaves (omega (arith, c.requires.some)) (items_of_runs runs) number)).1
