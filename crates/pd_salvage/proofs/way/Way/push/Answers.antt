use Rattle.std.proofs.Common.{refl, arith}
use Rattle.pd_tree.proofs.StackLemmas.{weigh_same}
use Rattle.pd_tree.specs.Stack.{last_place}
use Rattle.pd_salvage.specs.Way.{frontier}
use Rattle.pd_salvage.proofs.WayLemmas.{known_below}
use Rattle.pd_salvage.proofs.WayLemmas.{pushed_left, pushed_under}
use Rattle.pd_salvage.proofs.way.Way.push.Goals as goal

pub returns-clause-pushes : goal.returns-clause-pushes
unfolding frontier
returns-clause-pushes g c =
    let size = g.V.Value.SIZE in
    let old = c.args.self.now in
    let pushes = c.in_ok-push.ensures.pushes in
    record {
      depth = c.in_ok-push.ensures.depth;
      read = pushes.read;
      under = pushed_under size old.ranges.items old.stack.places.items c.push.new.self.places.items old.stack.depth c.depth-depth.result c.args.range c.depth-depth.ensures pushes.places;
      left =
          pushed_left size old.ranges.items old.stack.places.items c.push.new.self.places.items old.stack.depth c.depth-depth.result c.args.range c.depth-depth.ensures pushes.places
          c.push.new.self.depth (last_place c.push.new.self) c.in_ok-push.ensures.depth refl pushes.whole (omega arith);
      number = c.in_ok-push.ensures.number;
      number_under = weigh_same size old.stack.places.items c.push.new.self.places.items old.stack.depth pushes.places;
      knows = known_below old c.push.new.self.places.items c.known_from-from.result c.depth-depth.result (rw c.depth-depth.ensures pushes.places) c.known_from-from.ensures;
    }
