use Rattle.std.proofs.Common.{refl}
use Rattle.std.proofs.lemmas.Bool.{false≢true}
use Rattle.std.proofs.lemmas.Option.{IfSome_then}
use Rattle.pd_salvage_shapes.proofs.NoteLemmas.{part_inside}
use Rattle.pd_salvage.proofs.RangeLemmas.{pushed_popped}
use Rattle.pd_salvage_shapes.proofs.visiting.Visiting.read_part.Goals as goal

pub returns-clause-reads : goal.returns-clause-reads
returns-clause-reads g c =
    let old = c.args.self.now in
    let held = (g.D.Device.state c.args.dev.now).held in
    let pushes = c.in_ok-push.ensures.pushes in
    let same = pushed_popped 8 held c.args.b c.args.range old.way c.push.new.self c.pop.new.self pushes c.pop.ensures in
    let notes = c.in_ok-made.ensures.notes in
    let sound = c.in_ok-made.ensures.sound in
    rw c.part_of.ensures (
    record {
      same = refl;
      way = same;
      sound = record {
        lawful = sound.lawful;
        joined = sound.joined;
        counted = sound.counted;
        first = sound.first;
        end = sound.end;
        sized = λ full. absurd (false≢true full);
      };
      part = refl;
      inside = part_inside old.s.data_map.blocks c.args.b c.top.result.now.0 c.args.range c.in_ok-made.field-0 notes;
      told = IfSome_then held pushes.read (λ image read. rw (read, ← c.top.ensures) notes.mappings);
    })
