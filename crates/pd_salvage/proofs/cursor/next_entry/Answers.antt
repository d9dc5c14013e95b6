use Rattle.std.proofs.Common.{ap, refl, ◌∙◌, arith}
use Rattle.std.proofs.lemmas.Option.{IfSome_then}
use Rattle.pd_salvage.specs.Range.{ascending_from}
use Rattle.pd_salvage.specs.Way.{is_undamaged}
use Rattle.pd_salvage.specs.Way.{saved_on}
use Rattle.pd_salvage.proofs.AscendLemmas.{ascending_first, ascending_less, ascending_none}
use Rattle.pd_salvage.proofs.RangeLemmas.{saved_entry, saved_none}
use Rattle.pd_salvage.proofs.cursor.next_entry.Goals as goal

pub returns-then-key-least-clause-next : goal.returns-then-key-least-clause-next
returns-then-key-least-clause-next g c =
    IfSome_then (g.D.Device.state c.args.dev.now).held c.loop-way.invariant.left (λ image left.
    left ∙ (ap (ascending_from c.args.least) (saved_entry g.V.Value.SIZE g.V.Value.decoded c.args.nr image g.V.Value.fitting c.in-Entry.key c.in-Entry.value c.loop-way.way c.step.new.self c.in-Entry.ensures.steps)
    ∙ ascending_first c.args.least c.in-Entry.key c.in-Entry.value (saved_on g.V.Value.SIZE g.V.Value.decoded c.args.nr image c.step.new.self) (omega arith)))

pub loop-way-preserved : goal.loop-way-preserved
loop-way-preserved g c =
    let falls = c.in-Entry.ensures.steps.number in
    let before = c.loop-way.invariant.number in
    record {
      left =
          IfSome_then (g.D.Device.state c.args.dev.now).held c.loop-way.invariant.left (λ image left.
          left ∙ (ap (ascending_from c.args.least) (saved_entry g.V.Value.SIZE g.V.Value.decoded c.args.nr image g.V.Value.fitting c.in-Entry.key c.in-Entry.value c.loop-way.way c.step.new.self c.in-Entry.ensures.steps)
          ∙ ascending_less c.args.least c.in-Entry.key c.in-Entry.value (saved_on g.V.Value.SIZE g.V.Value.decoded c.args.nr image c.step.new.self) (omega arith)));
      number = omega arith;
      knows = IfSome_then (g.D.Device.state c.args.dev.now).held c.loop-way.invariant.knows (λ image known. c.in-Entry.ensures.knows (is_undamaged g.V.Value.SIZE) image known);
      kept = c.loop-way.invariant.kept;
      faults = c.loop-way.invariant.faults;
    }

pub returns-clause-next : goal.returns-clause-next
returns-clause-next g c =
    IfSome_then (g.D.Device.state c.args.dev.now).held c.loop-way.invariant.left (λ image left.
    let none = saved_none g.V.Value.SIZE g.V.Value.decoded c.args.nr image c.loop-way.way (c.loop-way-test.ensures.0 refl) in
    (left ∙ (ap (ascending_from c.args.least) none ∙ ascending_none c.args.least), none))

pub returns-then-key-least-clause-knows : goal.returns-then-key-least-clause-knows
returns-then-key-least-clause-knows g c =
    IfSome_then (g.D.Device.state c.args.dev.now).held c.loop-way.invariant.knows (λ image known. c.in-Entry.ensures.knows (is_undamaged g.V.Value.SIZE) image known)

pub loop-way-preserved-in-Passed : goal.loop-way-preserved-in-Passed
loop-way-preserved-in-Passed g c =
    let inv = c.loop-way.invariant in
    let passes = c.in-Passed.ensures.steps in
    let falls = passes.number in
    let before = inv.number in
    record {
      left = IfSome_then (g.D.Device.state c.args.dev.now).held inv.left (λ image left. left ∙ rw passes.left refl);
      number = omega arith;
      knows = IfSome_then (g.D.Device.state c.args.dev.now).held inv.knows (λ image known. c.in-Passed.ensures.knows (is_undamaged g.V.Value.SIZE) image known);
      kept = inv.kept;
      faults = inv.faults;
    }

pub enter-requires-clause-knows : goal.enter-requires-clause-knows
enter-requires-clause-knows g c =
    let inv = c.loop-way.invariant in
    rw inv.kept.held (IfSome_then (g.D.Device.state c.args.dev.now).held inv.knows (λ image known. c.in-Child.ensures.knows (is_undamaged g.V.Value.SIZE) image known))
