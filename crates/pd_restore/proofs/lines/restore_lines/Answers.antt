use Rattle.std.proofs.Common.{rules, [], ◌∷◌, ◌++◌, refl, true, false, ◌∙◌, arith}
use Rattle.pd_draft.specs.DraftState.{draft_state}
use Rattle.pd_draft.proofs.DraftLemmas.{closed_start, closed_then}
use Rattle.pd_grammar.specs.ThinText.{end_line}
use Rattle.pd_restore.proofs.ReadingLemmas.{steps_as}
use Rattle.pd_restoring.proofs.ReadingLemmas.{one_later, keeps_source}
use Rattle.pd_restore.proofs.lines.restore_lines.Goals as goal

pub returns-in_err-step-clause-room : goal.returns-in_err-step-clause-room
returns-in_err-step-clause-room g c before start h t leaves =
    let w = c.lines.invariant.went before start h in
    let lacks = c.in_err-step.ensures.room w.lines start w.so_far t (w.told t leaves) in
    search rules

pub lines-preserved : goal.lines-preserved
lines-preserved g c =
    let state = g.D.Device.state in
    let source = g.S.Source.state in
    let r = c.requires.reading in
    let own = c.lines.invariant.went r.before r.start r.so_far in
    let was = (source c.lines.source).left in
    let left = (source c.step.new.source).left in
    let text = c.step.new.text in
    let devices = c.step.new.gathered in
    let now = draft_state c.step.new.draft in
    let more = c.in_ok-step.field-0 in
    let ends = c.in_ok-step.ensures in
    let mine = steps_as g.G.Gathering.HasGathered more true own.lines c.args.room c.lines.text text was left devices r.start now c.if-branch.true (ends.steps own.lines r.start own.so_far) in
    record {
      same_reference = ends.same_reference ∙ c.lines.invariant.same_reference;
      reading = record { before = mine.0 ∷ own.lines; start = r.start; so_far = mine.1.0 };
      went = λ before start h.
          let w = c.lines.invariant.went before start h in
          let s = steps_as g.G.Gathering.HasGathered more true w.lines c.args.room c.lines.text text was left devices start now c.if-branch.true (ends.steps w.lines start w.so_far) in
          record { lines = s.0 ∷ w.lines; later = w.later ++ s.0 ∷ []; front = one_later before w.lines w.later s.0 w.front; so_far = s.1.0; told = λ t leaves. s.1.1 t (w.told t leaves) };
      closed = closed_then c.lines.invariant.closed ends.closed;
      kept = keeps_source c.lines.invariant.kept ends.source;
      source_faults = ends.faults.0 ∙ c.lines.invariant.source_faults;
      device_faults = ends.faults.1 ∙ c.lines.invariant.device_faults;
    }

pub lines-smaller : goal.lines-smaller
lines-smaller g c =
    let r = c.requires.reading in
    let own = c.lines.invariant.went r.before r.start r.so_far in
    let was = (g.S.Source.state c.lines.source).left in
    let left = (g.S.Source.state c.step.new.source).left in
    let mine = steps_as g.G.Gathering.HasGathered c.in_ok-step.field-0 true own.lines c.args.room c.lines.text c.step.new.text was left c.step.new.gathered r.start (draft_state c.step.new.draft) c.if-branch.true (c.in_ok-step.ensures.steps own.lines r.start own.so_far) in
    let grows = c.in_ok-step.ensures.grows c.if-branch.true in
    omega (arith, grows, mine.1.0.reads.so_far.count)

pub returns-clause-all : goal.returns-clause-all
returns-clause-all g c before start h =
    let w = c.lines.invariant.went before start h in
    let was = (g.S.Source.state c.lines.source).left in
    let left = (g.S.Source.state c.step.new.source).left in
    let s = steps_as g.G.Gathering.HasGathered c.in_ok-step.field-0 false w.lines c.args.room c.lines.text c.step.new.text was left c.step.new.gathered start (draft_state c.step.new.draft) c.if-branch.false (c.in_ok-step.ensures.steps w.lines start w.so_far) in
    record { lines = end_line ∷ w.lines; later = w.later ++ end_line ∷ []; front = w.front (end_line ∷ []); all = s.0; told = λ t leaves. s.1 t (w.told t leaves) }

pub lines-init : goal.lines-init
lines-init g c = record {
  same_reference = refl;
  reading = c.requires.reading;
  went = λ before start h. record { lines = before; later = []; front = λ others. refl; so_far = h; told = λ t leaves. leaves };
  closed = closed_start _ c.requires.closed;
  kept = record { access = refl; path = refl };
  source_faults = refl;
  device_faults = refl;
}
