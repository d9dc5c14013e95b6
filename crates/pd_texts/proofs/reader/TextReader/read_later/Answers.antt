use Rattle.std.proofs.Common.{arith, ◌≡◌, ◌∙◌, ◌++◌, sym, Ok, Err}
use Rattle.pd_grammar.specs.declared.cause.TextCause.TheVariants.{Word}
use Rattle.pd_grammar.specs.Texts.{read}
use Rattle.pd_grammar.proofs.WordLemmas.{ok-err}
use Rattle.pd_lines.specs.declared.reader.LineFault.TheVariants.{Source}
use Rattle.pd_lines.specs.Reader.{held_of, line_of, next_number}
use Rattle.pd_texts.specs.declared.reader.TextReader.{TextReader}
use Rattle.pd_texts.proofs.ValueLemmas.{other_bytes}
use Rattle.pd_texts.proofs.TextLemmas.{line_refuses, end_refuses, fault_refuses, count_is, has_read_more, leaves_more}
use Rattle.pd_texts.proofs.PastLemmas.{past_of}
use Rattle.pd_texts.proofs.reader.TextReader.read_later.Goals as goal

pub returns-in-Ok-read_line-clause-lines : goal.returns-in-Ok-read_line-clause-lines
returns-in-Ok-read_line-clause-lines g c = λ before some on.
    let t = g.P.TextState in
    let new : TextReader g.row.P.Denot g.row.P-Line.Denot = record { reader = c.advance.new.self; state = c.read_line.new.state } in
    let counted = c.in-Ok-true.ensures.counted (ok-err c.in-Ok-true.field-0 Source) in
    has_read_more t.format t.Stands before (t.meant c.in-Ok-read_line.line) c.args.self.now new c.text.result.now on counted c.text.ensures.short
    (sym (c.in-Ok-read_line.ensures.line before (c.take_memory.ensures.stands before on.so_far.stands) some)) (c.in-Ok-read_line.ensures.after before (c.take_memory.ensures.stands before on.so_far.stands) some)

pub returns-in-Ok-read_line-clause-text : goal.returns-in-Ok-read_line-clause-text
returns-in-Ok-read_line-clause-text g c = λ text before some on leaves.
    let t = g.P.TextState in
    let bytes = line_of c.advance.new.self in
    let line = t.meant c.in-Ok-read_line.line in
    let new : TextReader g.row.P.Denot g.row.P-Line.Denot = record { reader = c.advance.new.self; state = c.read_line.new.state } in
    let reads = rw c.in-Ok-true.field-0-test at (c.in-Ok-true.ensures.reads leaves.rest leaves.left_is) in
    let is : read t.format before bytes ≡ Ok line = sym (rw c.text.ensures.bytes at (c.in-Ok-read_line.ensures.line before (c.take_memory.ensures.stands before on.so_far.stands) some)) in
    leaves_more t.format text before line c.args.self.now new (g.S.Source.state c.args.source.now).left (g.S.Source.state c.advance.new.source).left
    bytes c.advance.new.self.lines on.going leaves reads is

pub returns-in-Err-read_line-clause-text : goal.returns-in-Err-read_line-clause-text
returns-in-Err-read_line-clause-text g c = λ text before some on leaves.
    let t = g.P.TextState in
    let old = c.args.self.now.reader in
    let bytes = line_of c.advance.new.self in
    let reads = rw c.in-Ok-true.field-0-test at (c.in-Ok-true.ensures.reads leaves.rest leaves.left_is) in
    let counted = c.in-Ok-true.ensures.counted (ok-err c.in-Ok-true.field-0 Source) in
    let is : read t.format before bytes ≡ Err c.in-Err-read_line.cause = sym (rw c.text.ensures.bytes at (c.in-Err-read_line.ensures.line before (c.take_memory.ensures.stands before on.so_far.stands) some)) in
    rw c.text_fault.ensures
    (line_refuses t.format text (held_of old ++ leaves.rest) bytes (held_of c.advance.new.self ++ reads.rest) before c.lines.result c.in-Err-read_line.cause leaves.is on.going
    (c.lines.ensures ∙ counted ∙ count_is before old.lines on.so_far.count) reads.text_is reads.printable reads.short is)

pub returns-in-Ok-false-clause-text : goal.returns-in-Ok-false-clause-text
returns-in-Ok-false-clause-text g c = λ text before some on leaves.
    let t = g.P.TextState in
    let old = c.args.self.now.reader in
    let reads = rw c.in-Ok-false.field-0-test at (c.in-Ok-false.ensures.reads leaves.rest leaves.left_is) in
    let counted = c.in-Ok-false.ensures.counted (ok-err c.in-Ok-false.field-0 Source) in
    rw c.text_fault-in-Ok-false.ensures
    (end_refuses t.format text (held_of old ++ leaves.rest) before c.lines-in-Ok-false.result leaves.is on.going
    (c.lines-in-Ok-false.ensures ∙ counted ∙ count_is before old.lines on.so_far.count) reads.0)

pub returns-in-Err-advance-clause-text : goal.returns-in-Err-advance-clause-text
returns-in-Err-advance-clause-text g c = λ text before some on leaves.
    let t = g.P.TextState in
    let old = c.args.self.now.reader in
    rw c.fault_of.ensures
    (fault_refuses t.format text (held_of old ++ leaves.rest) (held_of c.advance.new.self) (g.S.Source.state c.advance.new.source).left before (next_number old) Word c.in-Err-advance.fault
    leaves.is on.going (count_is before old.lines on.so_far.count) (λ bytes other. other_bytes t.format before bytes some other)
    (c.in-Err-advance.ensures.reads leaves.rest leaves.left_is))

pub returns-in-Err-read_line-clause-past : goal.returns-in-Err-read_line-clause-past
returns-in-Err-read_line-clause-past g c =
    let counted = c.in-Ok-true.ensures.counted (ok-err c.in-Ok-true.field-0 Source) in
    rw c.text_fault.ensures (omega (arith, c.lines.ensures))

pub returns-in-Ok-false-clause-past : goal.returns-in-Ok-false-clause-past
returns-in-Ok-false-clause-past g c =
    let counted = c.in-Ok-false.ensures.counted (ok-err c.in-Ok-false.field-0 Source) in
    rw c.text_fault-in-Ok-false.ensures (omega (arith, c.lines-in-Ok-false.ensures))

pub returns-in-Err-advance-clause-past : goal.returns-in-Err-advance-clause-past
returns-in-Err-advance-clause-past g c = rw c.fault_of.ensures (past_of c.args.self.now.reader.lines Word c.in-Err-advance.fault c.in-Err-advance.ensures.numbered)
