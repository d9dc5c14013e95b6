use Rattle.std.proofs.Common.{◌≡◌, ℕ, ◌<◌, Bool, true, [], ◌&&◌, not, cond, nat_lt, IfSome, refl, ◌∙◌, ap, subst, arith}
use Rattle.std.proofs.lemmas.Option.{IfSome_then}
use Rattle.pd_image.proofs.CrashLemmas.{only_reads_both}
use Rattle.pd_kinds.specs.Graph.{pair}
use Rattle.pd_kinds.proofs.ResultLemmas.{if_any, if_both}
use Rattle.pd_graph.specs.declared.notes.Note.{Note}
use Rattle.pd_graph.specs.Notes.{no_note, note_in}
use Rattle.pd_settle.specs.Settled.{AreSettleable}
use Rattle.pd_settle.specs.Settled.{IsOrdering}
use Rattle.pd_settle.specs.Settled.{is_fit}
use Rattle.pd_settle.specs.Looking.{bad_note}
use Rattle.pd_settle.proofs.LookLemmas.{steps_most}
use Rattle.pd_settle.proofs.RoleLemmas.{is_in_role, in_role, role_settleable, first_ordering, first_closed, settled_in_role, done_one}
use Rattle.pd_settle.proofs.in_role.settle_role.Goals as goal

pub loop-b-init : goal.loop-b-init
loop-b-init g c =
    let graph = g.F.Format.graph c.args.format.now in
    let lawful = g.met.F.Format.lawful c.args.format.now in
    let known : c.args.role < graph.roles = omega (arith, g.met.F.Format.roles c.args.format.now, c.requires.role) in
    let fit = is_fit c.args.fit.now c.args.role in
    let number = c.clear.ensures.number ∙ c.requires.number in
    let first : (d : ℕ) → note_in c.rule_out_each.new.notes d ≡ cond (nat_lt d graph.nr && not (fit d)) bad_note no_note =
    λ d. c.rule_out_each.ensures.notes d
    ∙ (ap (λ (n : ℕ). cond (nat_lt d n && not (fit d)) bad_note (note_in c.clear.new.notes d)) number
    ∙ ap (λ (n : Note). cond (nat_lt d graph.nr && not (fit d)) bad_note n) (c.clear.ensures.notes d)) in
    record {
      closed = first_closed graph [] c.args.role fit lawful known (note_in c.rule_out_each.new.notes) first;
      number = c.rule_out_each.ensures.number ∙ number;
      done = λ d small. absurd (omega arith);
      told = if_any (g.D.Device.state c.args.dev.now).held
          (λ image are. first_ordering graph image c.args.role fit lawful known (note_in c.rule_out_each.new.notes) first);
      reads = omega arith;
      kept = record { held = refl; access = refl; path = refl; blocks = refl; history = refl };
      faults = refl;
    }

pub loop-b-preserved : goal.loop-b-preserved
loop-b-preserved g c =
    let graph = g.F.Format.graph c.args.format.now in
    let lawful = g.met.F.Format.lawful c.args.format.now in
    let known : c.args.role < graph.roles = omega (arith, g.met.F.Format.roles c.args.format.now, c.requires.role) in
    let few = lawful.few_roles in
    let fit = is_fit c.args.fit.now c.args.role in
    let before = c.loop-b.invariant.reads in
    let reads = c.settle_from.ensures.reads in
    let test = c.loop-b-test.true in
    let end = c.nr-b-end.ensures.number in
    let same = c.rule_out_each.ensures.number in
    let cleared = c.clear.ensures.number in
    let number = c.requires.number in
    let small : c.loop-b.b < graph.nr = omega arith in
    record {
      closed = c.in_ok-settle_from.ensures.ended;
      number = c.settle_from.ensures.number ∙ c.loop-b.invariant.number;
      done = done_one c.loop-b.b (note_in c.loop-b.notes) (note_in c.settle_from.new.notes) c.settle_from.ensures.knows c.loop-b.invariant.done c.settle_from.ensures.started;
      told = if_both (g.D.Device.state c.args.dev.now).held
          (λ image more told are.
          more (is_in_role graph.nr c.args.role) fit (role_settleable graph image c.args.role fit lawful known are) (told are) (in_role graph.nr c.args.role c.loop-b.b (omega arith) small))
          (subst (λ o. IfSome o (λ image. (nodes fits : ℕ → Bool) → AreSettleable graph image nodes fits → IsOrdering graph image nodes fits true (note_in c.loop-b.notes)
          → nodes (pair c.loop-b.b c.args.role) ≡ true → IsOrdering graph image nodes fits true (note_in c.settle_from.new.notes)))
          c.loop-b.invariant.kept.held c.settle_from.ensures.told)
          c.loop-b.invariant.told;
      reads = omega arith;
      kept = only_reads_both c.loop-b.invariant.kept c.settle_from.ensures.kept;
      faults = c.in_ok-settle_from.ensures.faults ∙ c.loop-b.invariant.faults;
    }

pub returns-in_err-settle_from-clause-reads : goal.returns-in_err-settle_from-clause-reads
returns-in_err-settle_from-clause-reads g c =
    let graph = g.F.Format.graph c.args.format.now in
    let before = c.loop-b.invariant.reads in
    let reads = c.settle_from.ensures.reads in
    let most = steps_most graph.nr (note_in c.settle_from.new.notes) in
    omega arith

pub returns-clause-settled : goal.returns-clause-settled
returns-clause-settled g c =
    let graph = g.F.Format.graph c.args.format.now in
    let lawful = g.met.F.Format.lawful c.args.format.now in
    let known : c.args.role < graph.roles = omega (arith, g.met.F.Format.roles c.args.format.now, c.requires.role) in
    let last = c.loop-b-test.false in
    let end = c.nr-b-end.ensures.number in
    let number = c.clear.ensures.number ∙ c.requires.number in
    let same = c.rule_out_each.ensures.number in
    IfSome_then (g.D.Device.state c.args.dev.now).held c.loop-b.invariant.told (λ image told are.
    settled_in_role graph image c.args.role (is_fit c.args.fit.now c.args.role) lawful known c.loop-b.notes (told are) c.loop-b.invariant.closed
    (λ d small. c.loop-b.invariant.done d (omega arith)))

pub returns-clause-reads : goal.returns-clause-reads
returns-clause-reads g c =
    let graph = g.F.Format.graph c.args.format.now in
    let before = c.loop-b.invariant.reads in
    let most = steps_most graph.nr (note_in c.loop-b.notes) in
    omega arith
