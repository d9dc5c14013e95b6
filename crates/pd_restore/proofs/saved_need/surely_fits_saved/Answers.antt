use Rattle.std.proofs.Common.{◌≡◌, ◌≤◌, ◌/◌, ◌∙◌, ap, length, map, arith}
use Rattle.pd_grammar.specs.Need.{overflows_in}
use Rattle.pd_salvage.specs.declared.saved.SavedDevice.{SavedDevice}
use Rattle.pd_restore.specs.ShapeNeed.{data_of_runs}
use Rattle.pd_restore.proofs.MostOverLemmas.{at_most, overflows_few}
use Rattle.pd_restore.proofs.SavedNeedLemmas.{need_fits}
use Rattle.pd_restore.proofs.saved_need.surely_fits_saved.Goals as goal

pub returns-in-Ok : goal.returns-in-Ok
returns-in-Ok c sure =
    let saved = c.args.saved.now in
    let number : c.in-Some.mappings ≡ length (data_of_runs saved.runs) = rw c.runs.ensures at c.in-Some.ensures in
    let fewer : overflows_in (data_of_runs saved.runs) saved.head.blocks ≤ c.in-Some.mappings / 3 = omega (arith, overflows_few (data_of_runs saved.runs) saved.head.blocks, number) in
    need_fits saved c.head.ensures.sound c.head.result.now c.deref.result.now (c.in-Some.mappings / 3) c.args.room c.need_thin.result c.head.ensures.head
    (c.deref.ensures.value ∙ c.in-Ok.ensures ∙ ap (map (λ (d : SavedDevice). d.details.mapped)) c.devices.ensures)
    fewer c.need_thin.ensures (at_most c.need_thin.result c.args.room sure) c.requires
