use Rattle.std.proofs.Common.{arith, rules}
use Rattle.pd_draft.specs.DraftState.{draft_state}
use Rattle.pd_restore.proofs.ReadingLemmas.{no_room_asked, over_if_short}
use Rattle.pd_restore.proofs.SharedLemmas.{as_gathered, bare_follows, end_follows, few_after, taken_lines}
use Rattle.pd_grammar.specs.ThinText.{end_line}
use Rattle.pd_restore.proofs.shared.SharedLinesGathering.take_end.Goals as goal

pub returns-in_err-within-clause-need : goal.returns-in_err-within-clause-need
returns-in_err-within-clause-need g c before start f =
    let is = c.need_at_end-needed.ensures before start (draft_state c.args.draft.now) f.so_far.gathered f.lines.0.going f.so_far.need f.so_far.most in
    let over = over_if_short {T = Unit {0}} c.args.room _ _ c.within.result is c.within.ensures.need in search rules

pub end-requires-clause-gathered : goal.end-requires-clause-gathered
end-requires-clause-gathered g c =
    let p = c.requires.follows in
    let f = bare_follows p.before c.args.room end_line p.follows in
    record { so_far = as_gathered p.before c.args.room f.so_far; full = (end_follows c.args.room p.before f).complete }

pub returns-clause-gathered : goal.returns-clause-gathered
returns-clause-gathered g c before start f =
    let bare = bare_follows before c.args.room end_line f in
    record {
      gathered = c.in_ok-end.ensures.gathered c.args.room before start bare.so_far.gathered (end_follows c.args.room before bare);
      lines = taken_lines before c.args.self.now.lines c.saturating_add-self.result f.so_far.gathered.lines (omega (arith, c.saturating_add-self.ensures)) (few_after c.args.room before end_line f);
      last = f.so_far.gathered.last;
    }

pub returns-clause-need : goal.returns-clause-need
returns-clause-need g c before start f =
    let is = c.need_at_end-needed.ensures before start (draft_state c.args.draft.now) f.so_far.gathered f.lines.0.going f.so_far.need f.so_far.most in
    omega (arith, is, c.in_ok-within.ensures.need)

pub returns-in_err-end-clause-need : goal.returns-in_err-end-clause-need
returns-in_err-end-clause-need g c before start f = no_room_asked _ c.from_residual-in_err-end.result _ c.args.room _ c.from_residual-in_err-end.ensures.1
