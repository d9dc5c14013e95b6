use Rattle.std.proofs.Common.{true, false, IfSome, refl, ◌∙◌, subst, arith}
use Rattle.pd_image.proofs.CrashLemmas.{only_reads_both}
use Rattle.pd_graph.specs.Audit.{note_at}
use Rattle.std.proofs.lemmas.Option.{IfSome_then}
use Rattle.pd_kinds.proofs.ResultLemmas.{if_any, if_both}
use Rattle.pd_settle.specs.Settled.{AreSettleable}
use Rattle.pd_settle.specs.Settled.{is_node, IsOrdering, HasRoles}
use Rattle.pd_settle.proofs.NodeLemmas.{clean_of, settleable_of}
use Rattle.pd_settle.proofs.RoleLemmas.{closed_low, noted_ordering, inner_steps}
use Rattle.pd_settle.proofs.SettledLemmas.{all_settled, done_from, done_more, roles_kept, marks_both}
use Rattle.pd_settle.proofs.settling.note_each.Goals as goal

pub returns-in_err-visit-clause-reads : goal.returns-in_err-visit-clause-reads
returns-in_err-visit-clause-reads g c =
    let graph = g.F.Format.graph c.args.format.now in
    let lawful = g.met.F.Format.lawful c.args.format.now in
    let before = c.loop-b.invariant.reads in
    let reads = c.visit.ensures.reads in
    if_both (g.D.Device.state c.args.dev.now).held
    (λ image more told walked noted.
    let clean = clean_of graph image c.args.audit.now walked c.requires.sound in
    let ordering = more (settleable_of graph image lawful clean) (told walked noted) (roles_kept graph image c.args.audit.now c.loop-b.audit walked c.loop-b.invariant.marks) in
    let most = inner_steps graph image lawful clean (note_at c.args.audit.now) noted (note_at c.visit.new.audit) ordering in
    omega arith)
    (subst (λ o. IfSome o (λ image. AreSettleable graph image (is_node graph image) (λ c. true) → IsOrdering graph image (is_node graph image) (λ c. true) false (note_at c.loop-b.audit)
    → HasRoles graph image c.loop-b.audit → IsOrdering graph image (is_node graph image) (λ c. true) false (note_at c.visit.new.audit)))
    c.loop-b.invariant.kept.held c.visit.ensures.told)
    c.loop-b.invariant.told

pub loop-b-preserved : goal.loop-b-preserved
loop-b-preserved g c =
    let graph = g.F.Format.graph c.args.format.now in
    let lawful = g.met.F.Format.lawful c.args.format.now in
    let before = c.loop-b.invariant.reads in
    let reads = c.visit.ensures.reads in
    record {
      closed = c.in_ok-visit.ensures.ended;
      marks = marks_both c.args.audit.now c.loop-b.audit c.visit.new.audit c.loop-b.invariant.marks c.visit.ensures.marks;
      done = done_more g.F.Format.ROLES c.loop-b.b graph.is_tree c.args.audit.now c.loop-b.audit c.visit.new.audit c.loop-b.invariant.marks c.visit.ensures.knows
          c.loop-b.invariant.done c.in_ok-visit.ensures.done;
      told = if_both (g.D.Device.state c.args.dev.now).held
          (λ image more told walked noted.
          more (settleable_of graph image lawful (clean_of graph image c.args.audit.now walked c.requires.sound)) (told walked noted)
          (roles_kept graph image c.args.audit.now c.loop-b.audit walked c.loop-b.invariant.marks))
          (subst (λ o. IfSome o (λ image. AreSettleable graph image (is_node graph image) (λ c. true) → IsOrdering graph image (is_node graph image) (λ c. true) false (note_at c.loop-b.audit)
          → HasRoles graph image c.loop-b.audit → IsOrdering graph image (is_node graph image) (λ c. true) false (note_at c.visit.new.audit)))
          c.loop-b.invariant.kept.held c.visit.ensures.told)
          c.loop-b.invariant.told;
      reads = omega arith;
      kept = only_reads_both c.loop-b.invariant.kept c.visit.ensures.kept;
      faults = c.in_ok-visit.ensures.faults ∙ c.loop-b.invariant.faults;
    }

pub returns-clause-settled : goal.returns-clause-settled
returns-clause-settled g c =
    let graph = g.F.Format.graph c.args.format.now in
    let lawful = g.met.F.Format.lawful c.args.format.now in
    let last = c.loop-b-test.false in
    let end = c.nr-b-end.ensures.number in
    let number = c.requires.number in
    IfSome_then (g.D.Device.state c.args.dev.now).held c.loop-b.invariant.told (λ image told walked noted.
    all_settled graph image (is_node graph image) (λ c. true) false (note_at c.loop-b.audit) (told walked noted) c.loop-b.invariant.closed
    (done_from graph image c.args.audit.now c.loop-b.audit g.F.Format.ROLES c.loop-b.b lawful (g.met.F.Format.roles c.args.format.now) (omega arith) walked c.loop-b.invariant.done))

pub returns-clause-reads : goal.returns-clause-reads
returns-clause-reads g c =
    let graph = g.F.Format.graph c.args.format.now in
    let lawful = g.met.F.Format.lawful c.args.format.now in
    let before = c.loop-b.invariant.reads in
    IfSome_then (g.D.Device.state c.args.dev.now).held c.loop-b.invariant.told (λ image told walked noted.
    let clean = clean_of graph image c.args.audit.now walked c.requires.sound in
    let most = inner_steps graph image lawful clean (note_at c.args.audit.now) noted (note_at c.loop-b.audit) (told walked noted) in
    omega arith)

pub loop-b-init : goal.loop-b-init
loop-b-init g c =
    let graph = g.F.Format.graph c.args.format.now in
    let lawful = g.met.F.Format.lawful c.args.format.now in
    record {
      closed = closed_low (note_at c.args.audit.now) c.requires.notes;
      marks = record { number = refl; walked = refl; roles = λ b. refl; rules = λ b rule. refl; counts = λ b. refl };
      done = λ b role small. absurd (omega arith);
      told = if_any (g.D.Device.state c.args.dev.now).held
          (λ image walked noted. noted_ordering graph image lawful (clean_of graph image c.args.audit.now walked c.requires.sound) (note_at c.args.audit.now) noted);
      reads = omega arith;
      kept = record { held = refl; access = refl; path = refl; blocks = refl; history = refl };
      faults = refl;
    }
