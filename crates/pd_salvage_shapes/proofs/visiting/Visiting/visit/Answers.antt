use Rattle.std.proofs.Common.{◌≡◌, ◌-◌, suc, get_or, Some, refl, sym, ap, ◌∙◌, arith}
use Rattle.std.specs.List.{slice_get}
use Rattle.std.proofs.lemmas.Option.{slice_get-get_or}
use Rattle.pd_salvage_shapes.proofs.VisitLemmas.{part_from, visits_part, visits_whole}
use Rattle.pd_salvage_shapes.proofs.visiting.Visiting.visit.Goals as goal

pub returns-then-lies_in-clause-visits : goal.returns-then-lies_in-clause-visits
returns-then-lies_in-clause-visits g c =
    let old = c.args.self.now in
    let k = c.number-k.result - 1 in
    let note = c.index.result.now in
    let named : get_or old.places.items c.args.b 0 ≡ suc k = omega (arith, c.number-k.ensures, c.requires.named) in
    let most = c.requires.ready.notes.named c.args.b in
    let at : slice_get old.notes.items k ≡ Some note = slice_get-get_or old.notes.items k note (omega (arith, c.number-k.ensures, c.requires.named)) ∙ ap Some (sym c.index.ensures) in
    visits_whole c.args.b k note c.args.range c.raised-range.result old c.take.new.self c.requires.ready at named c.raised-range.ensures (g.D.Device.state c.args.dev.now).held
    (c.if-lies_in.ensures.inside old.s.data_map.blocks (c.requires.ready.notes.each k note at) refl) (c.in_ok-take.ensures note at)

pub take_own-requires-clause-from : goal.take_own-requires-clause-from
take_own-requires-clause-from g c =
    part_from (g.D.Device.state c.args.dev.now).held c.args.b c.args.range c.raised-range.result c.in_ok-note.note c.args.self.now c.read_part.new.self c.raised-range.ensures c.in_ok-note.ensures.reads

pub returns-clause-visits : goal.returns-clause-visits
returns-clause-visits g c =
    let old = c.args.self.now in
    let k = c.number-k.result - 1 in
    let note = c.index.result.now in
    let named : get_or old.places.items c.args.b 0 ≡ suc k = omega (arith, c.number-k.ensures, c.requires.named) in
    let most = c.requires.ready.notes.named c.args.b in
    let at : slice_get old.notes.items k ≡ Some note = slice_get-get_or old.notes.items k note (omega (arith, c.number-k.ensures, c.requires.named)) ∙ ap Some (sym c.index.ensures) in
    visits_part c.args.b k note c.args.range c.raised-range.result old c.take_own.new.self c.requires.ready at named c.raised-range.ensures (g.D.Device.state c.args.dev.now).held
    c.in_ok-note.note c.read_part.new.self (c.if-lies_in.ensures.outside old.s.data_map.blocks (c.requires.ready.notes.each k note at) refl) c.in_ok-note.ensures.reads c.in_ok-take_own.ensures
