use Rattle.std.proofs.Common.{not, None, refl, subst, sym}
use Rattle.std.proofs.lemmas.Bool.{and_parts, not-true}
use Rattle.std.proofs.lemmas.Option.{IfSome_then}
use Rattle.pd_kinds.specs.Node.{is_inner_node}
use Rattle.pd_laid.specs.Salvage.{is_damaged}
use Rattle.pd_tree.specs.Stack.{last_place}
use Rattle.pd_tree.proofs.NextLemmas.{if_both}
use Rattle.pd_salvage.specs.declared.way.Way.{Way}
use Rattle.pd_salvage.specs.Way.{PushesNode}
use Rattle.pd_salvage.specs.Way.{frontier}
use Rattle.pd_salvage_shapes.specs.Visiting.{is_undamaged_inner}
use Rattle.pd_salvage.proofs.RangeLemmas.{wanted}
use Rattle.pd_salvage.proofs.RangeLemmas.{pushed_popped}
use Rattle.pd_salvage_shapes.proofs.VisitLemmas.{inner_pushed}
use Rattle.pd_salvage_shapes.proofs.visiting.Visiting.read_new.Goals as goal

pub returns-then-again-clause-reads : goal.returns-then-again-clause-reads
returns-then-again-clause-reads g c =
    let old = c.args.self.now in
    let b = c.args.b in
    let held = (g.D.Device.state c.args.dev.now).held in
    let takes = c.if-again.ensures in
    let pushes = takes.pushes in
    let block = (last_place c.again.new.self.stack).block.0 in
    record {
      same = refl;
      number = pushes.number;
      left =
          IfSome_then held c.requires.knows (λ image known.
          let holds = takes.holds is_undamaged_inner image known in
          let both = and_parts (not (is_damaged 8 b block)) (is_inner_node block) holds.is_good in
          inner_pushed old.s image None b c.args.range old.way c.again.new.self pushes c.requires.room holds.read (wanted old.s.meta_map.blocks b c.args.range c.requires.wanted).0
          (not-true (is_damaged 8 b block) both.0) both.1);
      knows = IfSome_then held c.requires.knows (pushes.knows is_undamaged_inner);
    }

pub returns-then-is_sound_inner-clause-reads : goal.returns-then-is_sound_inner-clause-reads
unfolding frontier
returns-then-is_sound_inner-clause-reads g c =
    let old = c.args.self.now in
    let b = c.args.b in
    let held = (g.D.Device.state c.args.dev.now).held in
    let pushes =
    subst (λ (way : Way). PushesNode 8 held c.args.b c.args.range way c.push.new.self) c.if-again.ensures c.in_ok-push.ensures.pushes in
    let block = (last_place c.push.new.self.stack).block.0 in
    let good = rw c.top.ensures at (sym c.if-is_sound_inner.ensures) in
    let both = and_parts (not (is_damaged 8 b block)) (is_inner_node block) good in
    record {
      same = refl;
      number = rw c.keep.ensures.stack pushes.number;
      left =
          IfSome_then held pushes.read (λ image read.
          rw (c.keep.ensures.stack, c.keep.ensures.ranges)
          (inner_pushed old.s image held b c.args.range old.way c.push.new.self pushes c.requires.room read (wanted old.s.meta_map.blocks b c.args.range c.requires.wanted).0
          (not-true (is_damaged 8 b block) both.0) both.1));
      knows =
          if_both held
          (λ image held_is known read.
          c.keep.ensures.knows is_undamaged_inner image (pushes.knows is_undamaged_inner image known) (record { read = read; is_good = good }))
          c.requires.knows pushes.read;
    }

pub returns-clause-reads : goal.returns-clause-reads
returns-clause-reads g c =
    let held = (g.D.Device.state c.args.dev.now).held in
    let pushes =
    subst (λ (way : Way). PushesNode 8 held c.args.b c.args.range way c.push.new.self) c.if-again.ensures c.in_ok-push.ensures.pushes in
    let notes = c.in_ok-note_top.ensures in
    record {
      same = notes.same;
      way = pushed_popped 8 held c.args.b c.args.range c.args.self.now.way c.push.new.self c.note_top.new.self.way pushes notes.pops;
      ready = notes.ready;
      grow = notes.grow;
      named = notes.named;
      tells = IfSome_then held pushes.read notes.tells;
    }
