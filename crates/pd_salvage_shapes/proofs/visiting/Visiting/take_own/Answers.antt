use Rattle.std.proofs.Common.{◌≡◌, Some, length, refl, arith}
use Rattle.std.specs.List.{slice_get}
use Rattle.pd_salvage_shapes.proofs.VisitingLemmas.{last_at}
use Rattle.pd_salvage_shapes.proofs.VisitLemmas.{takes_own}
use Rattle.pd_salvage_shapes.proofs.visiting.Visiting.take_own.Goals as goal

pub returns : goal.returns
returns c =
    let old = c.args.self.now in
    let note = c.args.note in
    let is = c.in_ok-push.ensures.items in
    let number : c.in-Ok.k ≡ length old.notes.items = omega (arith, c.in-Ok.ensures, c.len.ensures) in
    let at : slice_get c.push.new.self.items c.in-Ok.k ≡ Some note = rw (is, number) (last_at old.notes.items note) in
    takes_own c.in-Ok.k note old (record old { notes = c.push.new.self }) c.take.new.self c.requires.ready c.requires.sound c.requires.part c.requires.from is number refl refl refl refl refl refl (c.in_ok-take.ensures note at)
