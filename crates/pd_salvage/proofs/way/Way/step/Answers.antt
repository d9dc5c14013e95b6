use Rattle.std.proofs.Common.{refl, sym, arith}
use Rattle.pd_kinds.specs.Node.{value_at}
use Rattle.pd_tree.specs.Stack.{last_place}
use Rattle.pd_salvage.specs.Way.{frontier}
use Rattle.pd_salvage.proofs.WayLemmas.{known_same, passed_same, taken_same}
use Rattle.pd_salvage.proofs.WayLemmas.{child_left, child_taken, entry_left, outside_left, passed_left}
use Rattle.pd_salvage.proofs.way.Way.step.Goals as goal

pub returns-in-Passed-clause-steps : goal.returns-in-Passed-clause-steps
unfolding frontier
returns-in-Passed-clause-steps g c =
    let old = c.args.self.now in
    let steps = c.in-Passed.ensures.steps in
    record { left = passed_left g.V.Value.SIZE old.ranges.items old.stack _ (omega arith) (omega arith) steps.passed; number = steps.number }

pub returns-in-Child-clause-steps : goal.returns-in-Child-clause-steps
unfolding frontier
returns-in-Child-clause-steps g c =
    let old = c.args.self.now in
    let steps = c.in-Child.ensures.steps in
    let range = child_taken g.V.Value.SIZE old.stack c.step.new.self old.ranges.items c.top.result.now.0 c.taken-i.result c.range.result c.of_child-range.result steps.takes
    c.of_child-range.ensures c.range.ensures (rw c.top.ensures refl) c.taken-i.ensures in
    record {
      room = steps.room;
      left = rw (steps.child, range) (child_left g.V.Value.SIZE old.ranges.items old.stack _ (omega arith) (omega arith) steps.room steps.takes steps.inner);
      number = steps.number;
    }

pub returns-then-has-clause-steps : goal.returns-then-has-clause-steps
unfolding frontier
returns-then-has-clause-steps g c =
    let old = c.args.self.now in
    let steps = c.in-Entry.ensures.steps in
    let wanted = rw (c.range-in-Entry.ensures, steps.takes.depth, steps.has_key) at (sym c.if-has.ensures) in
    record {
      coded = value_at g.V.Value.SIZE (last_place old.stack).block.0 (last_place old.stack).next;
      is = steps.has_value;
      left = rw steps.has_key (entry_left g.V.Value.SIZE old.ranges.items old.stack _ (omega arith) (omega arith) steps.takes steps.leaf wanted);
      fits = c.in-Entry.ensures.fits;
      number = steps.number;
    }

pub returns-else-has-clause-steps : goal.returns-else-has-clause-steps
unfolding frontier
returns-else-has-clause-steps g c =
    let old = c.args.self.now in
    let steps = c.in-Entry.ensures.steps in
    let unwanted = rw (c.range-in-Entry.ensures, steps.takes.depth, steps.has_key) at (sym c.if-has.ensures) in
    record { left = outside_left g.V.Value.SIZE old.ranges.items old.stack _ (omega arith) (omega arith) steps.takes steps.leaf unwanted; number = steps.number }

pub returns-in-Passed-clause-knows : goal.returns-in-Passed-clause-knows
returns-in-Passed-clause-knows g c =
    let old = c.args.self.now in
    known_same old _ (passed_same g.V.Value.SIZE old.stack c.step.new.self (omega arith) (omega arith) c.in-Passed.ensures.steps.passed)

pub returns-in-Child-clause-knows : goal.returns-in-Child-clause-knows
returns-in-Child-clause-knows g c =
    let old = c.args.self.now in
    known_same old _ (taken_same g.V.Value.SIZE old.stack c.step.new.self (omega arith) (omega arith) c.in-Child.ensures.steps.takes)

pub returns-then-has-clause-knows : goal.returns-then-has-clause-knows
returns-then-has-clause-knows g c =
    let old = c.args.self.now in
    known_same old _ (taken_same g.V.Value.SIZE old.stack c.step.new.self (omega arith) (omega arith) c.in-Entry.ensures.steps.takes)

pub returns-else-has-clause-knows : goal.returns-else-has-clause-knows
returns-else-has-clause-knows g c =
    let old = c.args.self.now in
    known_same old _ (taken_same g.V.Value.SIZE old.stack c.step.new.self (omega arith) (omega arith) c.in-Entry.ensures.steps.takes)
