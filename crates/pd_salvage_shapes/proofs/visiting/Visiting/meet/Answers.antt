use Rattle.std.proofs.Common.{◌-◌, sym, subst, arith}
use Rattle.std.proofs.lemmas.Result.{on_ok_weaker}
use Rattle.pd_tree.proofs.StackLemmas.{unit_some}
use Rattle.pd_salvage_shapes.specs.Visiting.{Visits}
use Rattle.pd_salvage_shapes.proofs.VisitLemmas.{meets_noted, meets_visited, passes}
use Rattle.pd_salvage_shapes.proofs.visiting.Visiting.meet.Goals as goal

pub returns-then-not-is_wanted-clause-meets : goal.returns-then-not-is_wanted-clause-meets
returns-then-not-is_wanted-clause-meets g c =
    let some = unit_some (64 - c.args.self.now.way.stack.depth) in
    passes (g.D.Device.state c.args.dev.now).held c.args.b c.args.range c.args.self.now c.requires.ready c.requires.knows (sym c.if-not-is_wanted.ensures) (omega arith)

pub returns-then-number-eq0-clause-meets : goal.returns-then-number-eq0-clause-meets
returns-then-number-eq0-clause-meets g c =
    let held = (g.D.Device.state c.args.dev.now).held in
    let notes = rw c.if-branch.false at c.in_ok-read_new.ensures.reads in
    on_ok_weaker c.visit.result
    (λ visits.
    meets_noted held c.args.b c.args.range c.args.self.now c.requires.room (sym c.if-not-is_wanted.ensures) c.requires.knows c.requires.ready c.read_new.new.self c.visit.new.self notes
    (subst (λ o. Visits o c.args.b c.args.range c.read_new.new.self c.visit.new.self) c.in_ok-read_new.ensures.kept.held visits))
    c.visit.ensures.visits

pub returns-clause-meets : goal.returns-clause-meets
returns-clause-meets g c =
    on_ok_weaker c.visit-2.result
    (meets_visited (g.D.Device.state c.args.dev.now).held c.args.b c.args.range c.args.self.now c.requires.room (sym c.if-not-is_wanted.ensures) c.requires.knows c.visit-2.new.self)
    c.visit-2.ensures.visits
