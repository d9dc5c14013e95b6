use Rattle.std.proofs.Common.{arith}
use Rattle.std.proofs.lemmas.Result.{err_from_is_err_and}
use Rattle.pd_draft.specs.DraftState.{draft_state}
use Rattle.pd_grammar.specs.EraText.{first_line, end_line, era}
use Rattle.pd_grammar.specs.EraText.{era_need_so_far}
use Rattle.pd_texts_kinds.specs.EraLine.{era_meant}
use Rattle.pd_texts_kinds.specs.EraLine.{EraStands}
use Rattle.pd_restoring.proofs.ReadingLemmas.{line_given, line_told, end_given, end_told, end_says, later_read, later_take, next_says}
use Rattle.pd_restore_kinds.proofs.ReadingLemmas.{stepped, came_to_end, falls_where}
use Rattle.pd_restore_kinds.proofs.era_lines.step.Goals as goal

pub take-requires-clause-take : goal.take-requires-clause-take
take-requires-clause-take g c =
    let r = c.requires.reading in
    let s = r.so_far in
    let n = c.in_ok-line in
    let reads = line_given era EraStands first_line era_meant n.field-0 c.in-Some.line r.before c.next.new.self c.in-Some.is (omega (arith, s.later)) (n.ensures.lines r.before s.reads) in
    record {
      before = r.before;
      start = r.start;
      room = r.room;
      gathered = s.gathered;
      later = s.later;
      after = reads.so_far.lines.0;
      begin = s.begin;
      need = s.need;
      there = s.there;
    }

pub returns-in-Some-clause-steps : goal.returns-in-Some-clause-steps
returns-in-Some-clause-steps g c before room start h =
    let n = c.in_ok-line in
    let was = (g.S.Source.state c.args.source.now).left in
    let left = (g.S.Source.state c.next.new.source).left in
    let reads = line_given era EraStands first_line era_meant n.field-0 c.in-Some.line before c.next.new.self c.in-Some.is (omega (arith, h.later)) (n.ensures.lines before h.reads) in
    stepped c.take.result before c.in-Some.line room c.args.text.now c.next.new.self was left c.args.array.now c.take.new.array start (draft_state c.args.draft.now) (draft_state c.take.new.draft) h
    c.take.ensures.closed.kept.blocks reads
    (λ t leaves. line_told era EraStands first_line era_meant n.field-0 c.in-Some.line t before c.next.new.self left c.in-Some.is (omega (arith, h.later)) (n.ensures.text t before h.reads leaves))
    c.take.ensures.more (c.take.ensures.gathered before start h.gathered h.later reads.so_far.lines.0)

pub returns-in-Some-clause-says : goal.returns-in-Some-clause-says
returns-in-Some-clause-says g c before room start h t leaves = end_says era era_need_so_far c.take.result room t c.take.ensures.fault

pub returns-in-Some-clause-falls : goal.returns-in-Some-clause-falls
returns-in-Some-clause-falls g c =
    let r = c.requires.reading in
    let s = r.so_far in
    let n = c.in_ok-line in
    let reads = line_given era EraStands first_line era_meant n.field-0 c.in-Some.line r.before c.next.new.self c.in-Some.is (omega (arith, s.later)) (n.ensures.lines r.before s.reads) in
    falls_where c.take.result r.before c.in-Some.line c.args.array.now c.take.new.array r.start (draft_state c.args.draft.now) (draft_state c.take.new.draft) s.later reads.so_far.lines.0 s.gathered
    (c.take.ensures.gathered r.before r.start s.gathered s.later reads.so_far.lines.0)

pub returns-in-None-clause-steps : goal.returns-in-None-clause-steps
returns-in-None-clause-steps g c before room start h =
    let n = c.in_ok-line in
    let was = (g.S.Source.state c.args.source.now).left in
    let left = (g.S.Source.state c.next.new.source).left in
    let reads = end_given era EraStands first_line era_meant n.field-0 before c.next.new.self c.in-None.is (omega (arith, h.later)) (n.ensures.lines before h.reads) in
    came_to_end before room c.args.text.now c.next.new.self was left c.args.array.now start (draft_state c.args.draft.now) h reads
    (λ t leaves. end_told era EraStands first_line era_meant n.field-0 t before c.next.new.self left c.in-None.is (omega (arith, h.later)) (n.ensures.text t before h.reads leaves))

pub returns-in_err-line-clause-says : goal.returns-in_err-line-clause-says
returns-in_err-line-clause-says g c before room start h t leaves =
    let p = err_from_is_err_and c.from_residual.result c.from_residual.ensures.1 in
    rw (p.1, p.2) (next_says era era_need_so_far first_line end_line c.in_err-line.field-0.0 room t before (omega (arith, h.later)) h.above h.need (c.in_err-line.ensures.text t before h.reads leaves))

pub returns-in-Some-clause-later : goal.returns-in-Some-clause-later
returns-in-Some-clause-later g c = later_take c.take.result _ _ c.take.ensures.faults

pub returns-in_err-line-clause-later : goal.returns-in_err-line-clause-later
returns-in_err-line-clause-later g c =
    let r = c.requires.reading in
    let p = err_from_is_err_and c.from_residual.result c.from_residual.ensures.1 in
    rw (p.1, p.2) (later_read era EraStands r.before c.args.text.now c.in_err-line.field-0.0 r.so_far.reads r.so_far.later c.in_err-line.ensures.past)
