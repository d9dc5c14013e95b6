use Rattle.std.proofs.Common.{arith, ◌≡◌, ◌∙◌, ◌++◌, [], Ok}
use Rattle.pd_grammar.specs.declared.cause.TextCause.TheVariants.{Header}
use Rattle.pd_grammar.specs.Texts.{read}
use Rattle.pd_grammar.proofs.WordLemmas.{ok-err}
use Rattle.pd_lines.specs.declared.reader.LineFault.TheVariants.{Source}
use Rattle.pd_lines.specs.Reader.{held_of, line_of, next_number}
use Rattle.pd_texts.specs.declared.reader.TextReader.{TextReader}
use Rattle.pd_texts.proofs.ValueLemmas.{first_ok, first_err}
use Rattle.pd_texts.proofs.TextLemmas.{line_refuses, end_refuses, fault_refuses, count_is, has_read_more, leaves_more}
use Rattle.pd_texts.proofs.PastLemmas.{past_of}
use Rattle.pd_texts.proofs.reader.TextReader.read_first.Goals as goal

pub returns-then-read_first-clause-lines : goal.returns-then-read_first-clause-lines
returns-then-read_first-clause-lines g c = λ on.
    let t = g.P.TextState in
    let new : TextReader g.row.P.Denot g.row.P-Line.Denot = record { reader = c.advance.new.self; state = c.read_first.new.self } in
    let counted = c.in-Ok-true.ensures.counted (ok-err c.in-Ok-true.field-0 Source) in
    let first = t.first_line c.read_first.new.self in
    let is = first_ok t.format c.text.result.now first (c.read_first.ensures.first c.if-read_first.true) in
    record {
      so_far = has_read_more t.format t.Stands [] first c.args.self.now new c.text.result.now on counted c.text.ensures.short is
          (c.read_first.ensures.after on.so_far.stands c.if-read_first.true);
      going = g.met.P.TextState.begins c.read_first.new.self;
    }

pub returns-then-read_first-clause-text : goal.returns-then-read_first-clause-text
returns-then-read_first-clause-text g c = λ text on leaves.
    let t = g.P.TextState in
    let bytes = line_of c.advance.new.self in
    let first = t.first_line c.read_first.new.self in
    let new : TextReader g.row.P.Denot g.row.P-Line.Denot = record { reader = c.advance.new.self; state = c.read_first.new.self } in
    let reads = rw c.in-Ok-true.field-0-test at (c.in-Ok-true.ensures.reads leaves.rest leaves.left_is) in
    let is : read t.format [] bytes ≡ Ok first = first_ok t.format bytes first (rw c.text.ensures.bytes at (c.read_first.ensures.first c.if-read_first.true)) in
    leaves_more t.format text [] first c.args.self.now new (g.S.Source.state c.args.source.now).left (g.S.Source.state c.advance.new.source).left
    bytes c.advance.new.self.lines on.going leaves reads is

pub returns-else-read_first-clause-text : goal.returns-else-read_first-clause-text
returns-else-read_first-clause-text g c = λ text on leaves.
    let t = g.P.TextState in
    let old = c.args.self.now.reader in
    let bytes = line_of c.advance.new.self in
    let reads = rw c.in-Ok-true.field-0-test at (c.in-Ok-true.ensures.reads leaves.rest leaves.left_is) in
    let counted = c.in-Ok-true.ensures.counted (ok-err c.in-Ok-true.field-0 Source) in
    rw c.text_fault.ensures
    (line_refuses t.format text (held_of old ++ leaves.rest) bytes (held_of c.advance.new.self ++ reads.rest) [] c.lines.result Header leaves.is on.going
    (c.lines.ensures ∙ counted ∙ count_is {M = t.Meant} [] old.lines on.so_far.count) reads.text_is reads.printable reads.short
    (first_err t.format bytes (rw c.text.ensures.bytes at (c.read_first.ensures.other c.if-read_first.false))))

pub returns-in-Ok-false-clause-text : goal.returns-in-Ok-false-clause-text
returns-in-Ok-false-clause-text g c = λ text on leaves.
    let t = g.P.TextState in
    let old = c.args.self.now.reader in
    let reads = rw c.in-Ok-false.field-0-test at (c.in-Ok-false.ensures.reads leaves.rest leaves.left_is) in
    let counted = c.in-Ok-false.ensures.counted (ok-err c.in-Ok-false.field-0 Source) in
    rw c.text_fault-in-Ok-false.ensures
    (end_refuses t.format text (held_of old ++ leaves.rest) [] c.lines-in-Ok-false.result leaves.is on.going
    (c.lines-in-Ok-false.ensures ∙ counted ∙ count_is {M = t.Meant} [] old.lines on.so_far.count) reads.0)

pub returns-in-Err-clause-text : goal.returns-in-Err-clause-text
returns-in-Err-clause-text g c = λ text on leaves.
    let t = g.P.TextState in
    let old = c.args.self.now.reader in
    rw c.fault_of.ensures
    (fault_refuses t.format text (held_of old ++ leaves.rest) (held_of c.advance.new.self) (g.S.Source.state c.advance.new.source).left [] (next_number old) Header c.in-Err.fault
    leaves.is on.going (count_is {M = t.Meant} [] old.lines on.so_far.count) (λ bytes other. first_err t.format bytes (g.met.P.TextState.header bytes other))
    (c.in-Err.ensures.reads leaves.rest leaves.left_is))

pub returns-else-read_first-clause-past : goal.returns-else-read_first-clause-past
returns-else-read_first-clause-past g c =
    let counted = c.in-Ok-true.ensures.counted (ok-err c.in-Ok-true.field-0 Source) in
    rw c.text_fault.ensures (omega (arith, c.lines.ensures))

pub returns-in-Ok-false-clause-past : goal.returns-in-Ok-false-clause-past
returns-in-Ok-false-clause-past g c =
    let counted = c.in-Ok-false.ensures.counted (ok-err c.in-Ok-false.field-0 Source) in
    rw c.text_fault-in-Ok-false.ensures (omega (arith, c.lines-in-Ok-false.ensures))

pub returns-in-Err-clause-past : goal.returns-in-Err-clause-past
returns-in-Err-clause-past g c = rw c.fault_of.ensures (past_of c.args.self.now.reader.lines Header c.in-Err.fault c.in-Err.ensures.numbered)
