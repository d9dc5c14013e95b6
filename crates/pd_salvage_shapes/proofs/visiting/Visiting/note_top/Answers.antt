use Rattle.std.proofs.Common.{◌≡◌, ◌+◌, length, set, refl, ◌∙◌, arith}
use Rattle.std.proofs.lemmas.List.{length-set}
use Rattle.pd_salvage_shapes.proofs.TreeLemmas.{note_tells}
use Rattle.pd_salvage_shapes.proofs.VisitLemmas.{grown, leaf_named, leaf_notes, leaf_tells, met_grown}
use Rattle.pd_salvage_shapes.proofs.visiting.Visiting.note_top.Goals as goal

pub returns : goal.returns
returns c =
    let old = c.args.self.now in
    let b = c.args.b in
    let note = c.in_ok-note.note in
    let notes = c.push.new.self.items in
    let is = c.in_ok-push.ensures.items in
    let of = c.in_ok-note.ensures.notes in
    let sound = c.in_ok-note.ensures.sound in
    let ready = c.requires.ready in
    let number : c.in-Ok.number ≡ length old.notes.items + 1 = omega (arith, c.in-Ok.ensures, c.len.ensures) in
    let placed : set old.places.items b c.in-Ok.number ≡ set old.places.items b (length old.notes.items + 1) = rw number refl in
    record {
      same = (refl, refl, refl, refl);
      pops = c.pop.ensures;
      ready = record {
        places = length-set old.places.items b c.in-Ok.number ∙ ready.places;
        notes = leaf_notes old ready note sound notes is b of.at c.requires.within c.requires.unread (set old.places.items b c.in-Ok.number) placed;
        met = met_grown old ready note sound notes is;
      };
      grow = grown old ready note sound notes is;
      named = leaf_named old ready note sound notes is b of.at c.requires.within c.requires.unread (set old.places.items b c.in-Ok.number) placed;
      tells = λ image read tells.
          leaf_tells old ready note sound notes is b of.at c.requires.within c.requires.unread (set old.places.items b c.in-Ok.number) placed image
          (note_tells old.s image b c.top.result.now.0 note of (rw c.top.ensures read) (rw c.top.ensures c.requires.leaf)) tells;
    }
