use Rattle.std.proofs.Common.{List, ap₂, subst, ◌∙◌}
use Rattle.pd_salvage.specs.SavedShape.{held_shape}
use Rattle.pd_salvage_shapes.specs.declared.tops.Top.{Top}
use Rattle.pd_salvage_shapes.specs.declared.visiting.Seen.{Seen}
use Rattle.pd_salvage_shapes.specs.Tops.{SeesAll}
use Rattle.pd_salvage_shapes.specs.SeenShape.{seen_shape}
use Rattle.pd_salvage_shapes.proofs.TableLemmas.{told_shape}
use Rattle.pd_salvage_shapes.proofs.shape.salvage_shape.Goals as goal

pub returns-clause-saved : goal.returns-clause-saved
returns-clause-saved g c =
    let held = (g.D.Device.state c.args.dev.now).held in
    let tops = c.in_ok-tops.tops.items in
    let seen = c.in_ok-seen.seen.items in
    let started = c.in_ok-visiting.visiting in
    let v = c.see_all.new.visiting in
    let sees =
    subst (λ o. SeesAll o tops seen started v) c.in_ok-tops.ensures.kept.held
    (subst (λ (ts : List Top). SeesAll (g.D.Device.state c.read_tops.new.dev).held ts seen started v) c.as_slice.ensures.value c.in_ok-seen.ensures.sees) in
    let is = c.in_ok-shape_of.ensures ∙ ap₂ (λ (ts : List Top) (ds : List Seen). seen_shape v.s v.places.items v.notes.items ts ds) c.as_slice-2.ensures.value c.as_mut_slice.ensures.value in
    told_shape held c.args.s.now tops seen started v (held_shape c.in_ok-shape_of.field-0) c.in_ok-tops.ensures.told c.in_ok-visiting.ensures sees is
