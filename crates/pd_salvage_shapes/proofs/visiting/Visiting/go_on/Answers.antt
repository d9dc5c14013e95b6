use Rattle.std.proofs.Common.{[], refl, ap, ◌∙◌, subst}
use Rattle.std.specs.List.{flat_map}
use Rattle.std.proofs.lemmas.Option.{IfSome_then}
use Rattle.pd_image.proofs.CrashLemmas.{only_reads_both}
use Rattle.pd_salvage.specs.Way.{told}
use Rattle.pd_salvage_shapes.specs.Note.{mets_below}
use Rattle.pd_salvage_shapes.specs.Visiting.{Meets, is_undamaged_inner}
use Rattle.pd_salvage_shapes.proofs.TreeLemmas.{down_all, ended_all, passed_all}
use Rattle.pd_salvage_shapes.proofs.visiting.Visiting.go_on.Goals as goal

pub steps-preserved-in-Passed : goal.steps-preserved-in-Passed
steps-preserved-in-Passed g c =
    let inv = c.steps.invariant in
    let old = c.steps.self in
    record {
      ready = record { places = inv.ready.places; notes = inv.ready.notes; met = inv.ready.met };
      same = inv.same;
      grow = inv.grow;
      told = IfSome_then (g.D.Device.state c.args.dev.now).held inv.told (λ image is all start.
          passed_all image all old c.step.new.self (ap (flat_map (told (λ e. []) (mets_below old.s image))) c.in-Passed.ensures.steps.left) (is all start));
      knows = IfSome_then (g.D.Device.state c.args.dev.now).held inv.knows (c.in-Passed.ensures.knows is_undamaged_inner);
      kept = inv.kept;
      faults = inv.faults;
    }

pub steps-preserved-in-Continue-1 : goal.steps-preserved-in-Continue-1
steps-preserved-in-Continue-1 g c =
    let inv = c.steps.invariant in
    let held = (g.D.Device.state c.args.dev.now).held in
    let old = c.steps.self in
    let way = c.step.new.self in
    let new = c.meet.new.self in
    let b = c.in-Child.b in
    let range = c.in-Child.range in
    let meets = c.in_ok-meet-in-Child.ensures.meets in
    record {
      ready = meets.ready;
      same = meets.same ∙ inv.same;
      grow = λ k n at. meets.grow k n (inv.grow k n at);
      told = down_all held b range c.args.self.now old way new c.in-Child.ensures.steps (subst (λ o. Meets o b range (record old { way = way }) new) inv.kept.held meets) inv.told;
      knows = rw inv.kept.held at meets.knows;
      kept = only_reads_both inv.kept c.in_ok-meet-in-Child.ensures.kept;
      faults = c.in_ok-meet-in-Child.ensures.faults ∙ inv.faults;
    }

pub steps-preserved : goal.steps-preserved
steps-preserved g c =
    let inv = c.steps.invariant in
    let old = c.steps.self in
    record {
      ready = record { places = inv.ready.places; notes = inv.ready.notes; met = inv.ready.met };
      same = inv.same;
      grow = inv.grow;
      told = IfSome_then (g.D.Device.state c.args.dev.now).held inv.told (λ image is all start.
          passed_all image all old c.step.new.self (ap (flat_map (told (λ e. []) (mets_below old.s image))) c.in-Entry.ensures.steps.left) (is all start));
      knows = IfSome_then (g.D.Device.state c.args.dev.now).held inv.knows (c.in-Entry.ensures.knows is_undamaged_inner);
      kept = inv.kept;
      faults = inv.faults;
    }

pub returns-clause-met : goal.returns-clause-met
returns-clause-met g c =
    let inv = c.steps.invariant in
    record {
      same = inv.same;
      ready = inv.ready;
      grow = inv.grow;
      told = IfSome_then (g.D.Device.state c.args.dev.now).held inv.told (λ image is all start. ended_all image all c.steps.self (c.steps-test.ensures.0 refl) (is all start));
    }

pub meet-requires-clause-knows : goal.meet-requires-clause-knows
meet-requires-clause-knows g c =
    let inv = c.steps.invariant in
    rw inv.kept.held (IfSome_then (g.D.Device.state c.args.dev.now).held inv.knows (c.in-Child.ensures.knows is_undamaged_inner))
