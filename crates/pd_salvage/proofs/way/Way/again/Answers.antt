use Rattle.std.proofs.Common.{◌<◌, length, refl, arith}
use Rattle.pd_tree.specs.Below.{whole_place}
use Rattle.pd_tree.specs.Stack.{last_place, place_at}
use Rattle.pd_tree.proofs.StackLemmas.{weigh_same}
use Rattle.pd_salvage.specs.Way.{frontier}
use Rattle.pd_salvage.proofs.WayLemmas.{before_same, known_same, last_is, set_same}
use Rattle.pd_salvage.proofs.WayLemmas.{pushed_left, pushed_under}
use Rattle.pd_salvage.proofs.way.Way.again.Goals as goal

pub returns : goal.returns
unfolding frontier
returns g c =
    let size = g.V.Value.SIZE in
    let old = c.args.self.now in
    let new = c.again.new.self in
    let d = old.stack.depth in
    let places = old.stack.places.items in
    let place = whole_place (place_at places d) in
    let known = c.if-not-stands_next.ensures.known refl in
    let is = c.again.ensures.places in
    let within : d < length places = omega (arith, old.known_are) in
    let same = before_same places d place new.places.items is in
    let last = last_is places d place new is c.again.ensures.depth within in
    record {
      pushes = record {
        depth = c.again.ensures.depth;
        read = tt;
        under = pushed_under size old.ranges.items places new.places.items d c.depth.result c.args.range c.depth.ensures same;
        left =
            pushed_left size old.ranges.items places new.places.items d c.depth.result c.args.range c.depth.ensures same
            new.depth (last_place new) c.again.ensures.depth refl (rw last refl) (omega (arith, old.ranges_are));
        number = c.again.ensures.number;
        number_under = weigh_same size places new.places.items d same;
        knows = known_same old new.places.items (rw is (set_same places d place within refl));
      };
      holds = λ good image knows. rw (last, ← c.if-not-stands_next.ensures.number refl) (let holds = knows d known.0 known.1 in record { read = holds.read; is_good = holds.is_good });
    }
