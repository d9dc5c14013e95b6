use Rattle.std.proofs.Common.{[], ◌∷◌, ◌++◌, ap, arith}
use Rattle.pd_draft.specs.DraftState.{draft_state}
use Rattle.pd_grammar.specs.Texts.{Reading, lines_after}
use Rattle.pd_grammar.specs.Texts.{split}
use Rattle.pd_lines.specs.Reader.{held_of}
use Rattle.pd_grammar.specs.ThinText.{Line, end_line, pool_format}
use Rattle.pd_texts.specs.ThinLine.{line_of, thin_meant}
use Rattle.pd_texts.specs.ThinState.{ThinStands, first_of}
use Rattle.pd_restoring.proofs.ReadingLemmas.{line_given, line_told, end_given, end_told, later_read, later_take}
use Rattle.pd_restore.specs.Reading.{Follows}
use Rattle.pd_restore.proofs.ReadingLemmas.{stepped, lacking, came_to_end, grows_where}
use Rattle.pd_restore.proofs.lines.step.Goals as goal

pub take-requires-clause-follows : goal.take-requires-clause-follows
take-requires-clause-follows g c =
    let r = c.requires.reading in
    let s = r.so_far in
    let n = c.in-Ok-Some in
    let first = first_of c.next.new.self.state in
    let reads = line_given pool_format ThinStands first thin_meant n.field-0 n.line r.before c.next.new.self n.field-0-is (omega (arith, s.later)) (n.ensures.lines r.before s.reads) in
    record { before = r.before; start = r.start; follows = record { so_far = s.so_far; later = s.later; lines = reads.so_far.lines } }

pub end-requires-clause-follows : goal.end-requires-clause-follows
end-requires-clause-follows g c =
    let r = c.requires.reading in
    let s = r.so_far in
    let n = c.in-Ok-None in
    let first = first_of c.next.new.self.state in
    let reads = end_given pool_format ThinStands first thin_meant n.field-0 r.before c.next.new.self n.field-0-is (omega (arith, s.later)) (n.ensures.lines r.before s.reads) in
    record { before = r.before; start = r.start; follows = record { so_far = s.so_far; later = s.later; lines = reads } }

pub returns-in-Ok-Some-clause-steps : goal.returns-in-Ok-Some-clause-steps
returns-in-Ok-Some-clause-steps g c before start h =
    let n = c.in-Ok-Some in
    let was = (g.S.Source.state c.args.source.now).left in
    let left = (g.S.Source.state c.next.new.source).left in
    let first = first_of c.next.new.self.state in
    let reads = line_given pool_format ThinStands first thin_meant n.field-0 n.line before c.next.new.self n.field-0-is (omega (arith, h.later)) (n.ensures.lines before h.reads) in
    let follows : Follows g.G.Gathering.HasGathered before c.args.room c.args.gathered.now (line_of n.line) start (draft_state c.args.draft.now) =
    record { so_far = h.so_far; later = h.later; lines = reads.so_far.lines } in
    stepped g.G.Gathering.HasGathered c.take.result before n.line c.args.room c.args.text.now c.next.new.self was left c.args.gathered.now c.take.new.gathered start (draft_state c.args.draft.now) (draft_state c.take.new.draft) h
    c.take.ensures.closed.kept.blocks reads
    (λ t leaves. line_told pool_format ThinStands first thin_meant n.field-0 n.line t before c.next.new.self left n.field-0-is (omega (arith, h.later)) (n.ensures.text t before h.reads leaves))
    c.take.ensures.more (c.take.ensures.gathered before start follows) (c.take.ensures.need before start follows)

pub returns-in-Ok-Some-clause-room : goal.returns-in-Ok-Some-clause-room
returns-in-Ok-Some-clause-room g c before start h t leaves =
    let n = c.in-Ok-Some in
    let left = (g.S.Source.state c.next.new.source).left in
    let first = first_of c.next.new.self.state in
    let reads = line_given pool_format ThinStands first thin_meant n.field-0 n.line before c.next.new.self n.field-0-is (omega (arith, h.later)) (n.ensures.lines before h.reads) in
    let told = line_told pool_format ThinStands first thin_meant n.field-0 n.line t before c.next.new.self left n.field-0-is (omega (arith, h.later)) (n.ensures.text t before h.reads leaves) in
    lacking c.take.result before (lines_after pool_format (line_of n.line ∷ before) (split 10 (held_of c.next.new.self.reader ++ told.rest))).lines (line_of n.line) c.args.room t h.above
    (omega (arith, h.later)) (ap (λ (r : Reading Line). r.lines) told.is) (c.take.ensures.need before start (record { so_far = h.so_far; later = h.later; lines = reads.so_far.lines }))

pub returns-in-Ok-Some-clause-grows : goal.returns-in-Ok-Some-clause-grows
returns-in-Ok-Some-clause-grows g c =
    let r = c.requires.reading in
    let s = r.so_far in
    let n = c.in-Ok-Some in
    let first = first_of c.next.new.self.state in
    let reads = line_given pool_format ThinStands first thin_meant n.field-0 n.line r.before c.next.new.self n.field-0-is (omega (arith, s.later)) (n.ensures.lines r.before s.reads) in
    let few = c.take.ensures.few r.before r.start (record { so_far = s.so_far; later = s.later; lines = reads.so_far.lines }) in
    grows_where c.take.result r.before (thin_meant n.field-0) c.args.text.now c.next.new.self s.reads (rw n.field-0-is reads) few

pub returns-in-Ok-None-clause-steps : goal.returns-in-Ok-None-clause-steps
returns-in-Ok-None-clause-steps g c before start h =
    let n = c.in-Ok-None in
    let was = (g.S.Source.state c.args.source.now).left in
    let left = (g.S.Source.state c.next.new.source).left in
    let first = first_of c.next.new.self.state in
    let reads = end_given pool_format ThinStands first thin_meant n.field-0 before c.next.new.self n.field-0-is (omega (arith, h.later)) (n.ensures.lines before h.reads) in
    let follows : Follows g.G.Gathering.HasGathered before c.args.room c.args.gathered.now end_line start (draft_state c.args.draft.now) =
    record { so_far = h.so_far; later = h.later; lines = reads } in
    came_to_end g.G.Gathering.HasGathered c.end.result before c.args.room c.args.text.now c.next.new.self was left c.args.gathered.now c.end.new.gathered start (draft_state c.args.draft.now) (draft_state c.end.new.draft) h
    c.end.ensures.closed.kept.blocks reads
    (λ t leaves. end_told pool_format ThinStands first thin_meant n.field-0 t before c.next.new.self left n.field-0-is (omega (arith, h.later)) (n.ensures.text t before h.reads leaves))
    c.end.ensures.more (c.end.ensures.gathered before start follows) (c.end.ensures.need before start follows)

pub returns-in-Ok-None-clause-room : goal.returns-in-Ok-None-clause-room
returns-in-Ok-None-clause-room g c before start h t leaves =
    let n = c.in-Ok-None in
    let left = (g.S.Source.state c.next.new.source).left in
    let first = first_of c.next.new.self.state in
    let reads = end_given pool_format ThinStands first thin_meant n.field-0 before c.next.new.self n.field-0-is (omega (arith, h.later)) (n.ensures.lines before h.reads) in
    let told = end_told pool_format ThinStands first thin_meant n.field-0 t before c.next.new.self left n.field-0-is (omega (arith, h.later)) (n.ensures.text t before h.reads leaves) in
    lacking c.end.result before [] end_line c.args.room t h.above (omega (arith, h.later)) (ap (λ (r : Reading Line). r.lines) told.0) (c.end.ensures.need before start (record { so_far = h.so_far; later = h.later; lines = reads }))

pub returns-in-Err-clause-room : goal.returns-in-Err-clause-room
returns-in-Err-clause-room g c before start h t leaves =
    c.fault_after.ensures.says before c.args.text.now start (draft_state c.args.draft.now) h (first_of c.next.new.self.state) t (c.in-Err.ensures.text t before h.reads leaves)

pub returns-in-Ok-Some-clause-later : goal.returns-in-Ok-Some-clause-later
returns-in-Ok-Some-clause-later g c = later_take c.take.result _ _ c.take.ensures.faults

pub returns-in-Ok-None-clause-later : goal.returns-in-Ok-None-clause-later
returns-in-Ok-None-clause-later g c = later_take c.end.result _ _ c.end.ensures.faults

pub returns-in-Err-clause-later : goal.returns-in-Err-clause-later
returns-in-Err-clause-later g c =
    let r = c.requires.reading in
    c.fault_after.ensures.later (later_read pool_format ThinStands r.before c.args.text.now c.in-Err.fault r.so_far.reads r.so_far.later c.in-Err.ensures.past)
