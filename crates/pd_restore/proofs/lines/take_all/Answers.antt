use Rattle.std.proofs.Common.{rules, refl, ◌∙◌}
use Rattle.pd_draft.specs.DraftState.{draft_state}
use Rattle.pd_draft.proofs.DraftLemmas.{closed_start, closed_then}
use Rattle.pd_texts.specs.ThinLine.{line_of}
use Rattle.pd_restore.proofs.ComingLemmas.{line_follows, last_follows, line_says, last_says, took_next, took_all}
use Rattle.pd_restore.proofs.lines.take_all.Goals as goal

pub loop-line-init : goal.loop-line-init
loop-line-init g c = record {
  same_reference = refl;
  took = λ before start h. record { lines = before; so_far = h; same = refl };
  closed = closed_start _ c.requires.closed;
  faults = refl;
}

pub take_line-requires-clause-follows : goal.take_line-requires-clause-follows
take_line-requires-clause-follows g c =
    let l = c.loop-line in
    let coming = g.L.Giving.coming in
    let has = g.G.Gathering.HasGathered in
    let r = c.requires.made in
    let w = l.invariant.took r.before r.start r.so_far in
    let now = draft_state l.draft in
    record { before = w.lines; start = r.start; follows = line_follows has r.before c.args.room (coming c.args.lines.now) (coming l.lines) l.gathered r.start now w (coming c.next.new.self) (line_of c.in-Some.line) c.in-Some.ensures.some }

pub loop-line-preserved : goal.loop-line-preserved
loop-line-preserved g c =
    let l = c.loop-line in
    let coming = g.L.Giving.coming in
    let has = g.G.Gathering.HasGathered in
    let line = line_of c.in-Some.line in
    let rest = coming c.next.new.self in
    let is = c.in-Some.ensures.some in
    let taken = c.in_ok-take_line.ensures in
    let now = draft_state l.draft in
    record {
      same_reference = taken.same_reference ∙ l.invariant.same_reference;
      took = λ before start h.
          let w = l.invariant.took before start h in
          let follows = line_follows has before c.args.room (coming c.args.lines.now) (coming l.lines) l.gathered start now w rest line is in
          took_next has before c.args.room (coming c.args.lines.now) (coming l.lines) l.gathered start now w c.take_line.new.self (draft_state c.take_line.new.draft) taken.closed.kept.blocks rest line is
          (taken.gathered w.lines start follows) (taken.need w.lines start follows);
      closed = closed_then l.invariant.closed taken.closed;
      faults = taken.faults ∙ l.invariant.faults;
    }

pub returns-in_err-take_line-clause-says : goal.returns-in_err-take_line-clause-says
returns-in_err-take_line-clause-says g c before start h left t is =
    let l = c.loop-line in
    let coming = g.L.Giving.coming in
    let has = g.G.Gathering.HasGathered in
    let line = line_of c.in-Some.line in
    let rest = coming c.next.new.self in
    let now = draft_state l.draft in
    let w = l.invariant.took before start h in
    let follows = line_follows has before c.args.room (coming c.args.lines.now) (coming l.lines) l.gathered start now w rest line c.in-Some.ensures.some in
    let says =
    line_says has before c.args.room (coming c.args.lines.now) (coming l.lines) l.gathered start now w c.take_line.result rest line left t c.in-Some.ensures.some is (c.take_line.ensures.need w.lines start follows) in
    search rules

pub take_end-requires-clause-follows : goal.take_end-requires-clause-follows
take_end-requires-clause-follows g c =
    let l = c.loop-line in
    let coming = g.L.Giving.coming in
    let has = g.G.Gathering.HasGathered in
    let r = c.requires.made in
    let w = l.invariant.took r.before r.start r.so_far in
    record { before = w.lines; start = r.start; follows = last_follows has r.before c.args.room (coming c.args.lines.now) (coming l.lines) l.gathered r.start (draft_state l.draft) w c.in_default.ensures.none }

pub returns-clause-all : goal.returns-clause-all
returns-clause-all g c before start h left =
    let l = c.loop-line in
    let coming = g.L.Giving.coming in
    let has = g.G.Gathering.HasGathered in
    let now = draft_state l.draft in
    let w = l.invariant.took before start h in
    let follows = last_follows has before c.args.room (coming c.args.lines.now) (coming l.lines) l.gathered start now w c.in_default.ensures.none in
    took_all has before c.args.room (coming c.args.lines.now) (coming l.lines) l.gathered start now w c.take_end.new.self (draft_state c.take_end.new.draft) c.take_end.ensures.closed.kept.blocks c.take_end.result left c.in_default.ensures.none
    (c.take_end.ensures.gathered w.lines start follows) (c.take_end.ensures.need w.lines start follows)

pub returns-clause-says : goal.returns-clause-says
returns-clause-says g c before start h left t is =
    let l = c.loop-line in
    let coming = g.L.Giving.coming in
    let has = g.G.Gathering.HasGathered in
    let now = draft_state l.draft in
    let w = l.invariant.took before start h in
    let follows = last_follows has before c.args.room (coming c.args.lines.now) (coming l.lines) l.gathered start now w c.in_default.ensures.none in
    last_says has before c.args.room (coming c.args.lines.now) (coming l.lines) l.gathered start now w c.take_end.result left t c.in_default.ensures.none is (c.take_end.ensures.need w.lines start follows)
