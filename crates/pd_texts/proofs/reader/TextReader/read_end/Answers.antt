use Rattle.std.proofs.Common.{arith, ◌∙◌, ◌++◌, ◌∷◌, None}
use Rattle.pd_grammar.proofs.WordLemmas.{ok-err}
use Rattle.pd_lines.specs.declared.reader.LineFault.TheVariants.{Source}
use Rattle.pd_lines.specs.Reader.{held_of, line_of, next_number}
use Rattle.pd_texts.proofs.TextLemmas.{line_after, end_after, fault_after, count_is}
use Rattle.pd_texts.proofs.PastLemmas.{past_end}
use Rattle.pd_texts.proofs.reader.TextReader.read_end.Goals as goal

pub returns-in-Ok-true-clause-text : goal.returns-in-Ok-true-clause-text
returns-in-Ok-true-clause-text g c = λ text before read leaves.
    let t = g.P.TextState in
    let old = c.args.self.now.reader in
    let reads = rw c.in-Ok-true.field-0-test at (c.in-Ok-true.ensures.reads leaves.rest leaves.left_is) in
    let counted = c.in-Ok-true.ensures.counted (ok-err c.in-Ok-true.field-0 Source) in
    rw c.text_fault.ensures
    (line_after t.format text (held_of old ++ leaves.rest) (line_of c.advance.new.self) (held_of c.advance.new.self ++ reads.rest) (t.meant None ∷ before) c.lines.result leaves.is (g.met.P.TextState.ends None)
    (c.lines.ensures ∙ counted ∙ count_is (t.meant None ∷ before) old.lines read.count) reads.text_is)

pub returns-in-Ok-false-clause-text : goal.returns-in-Ok-false-clause-text
returns-in-Ok-false-clause-text g c = λ text before read leaves.
    let t = g.P.TextState in
    let reads = rw c.in-Ok-false.field-0-test at (c.in-Ok-false.ensures.reads leaves.rest leaves.left_is) in
    (end_after t.format text (held_of c.args.self.now.reader ++ leaves.rest) (t.meant None ∷ before) leaves.is (g.met.P.TextState.ends None) reads.0, reads.1.1)

pub returns-in-Err-clause-text : goal.returns-in-Err-clause-text
returns-in-Err-clause-text g c = λ text before read leaves.
    let t = g.P.TextState in
    let old = c.args.self.now.reader in
    rw c.fault_after_end.ensures
    (fault_after t.format text (held_of old ++ leaves.rest) (held_of c.advance.new.self) (g.S.Source.state c.advance.new.source).left (t.meant None ∷ before) (next_number old) c.in-Err.fault
    leaves.is (g.met.P.TextState.ends None) (count_is (t.meant None ∷ before) old.lines read.count) (c.in-Err.ensures.reads leaves.rest leaves.left_is))

pub returns-in-Ok-true-clause-past : goal.returns-in-Ok-true-clause-past
returns-in-Ok-true-clause-past g c =
    let counted = c.in-Ok-true.ensures.counted (ok-err c.in-Ok-true.field-0 Source) in
    rw c.text_fault.ensures (omega (arith, c.lines.ensures))

pub returns-in-Err-clause-past : goal.returns-in-Err-clause-past
returns-in-Err-clause-past g c = rw c.fault_after_end.ensures (past_end c.args.self.now.reader.lines c.in-Err.fault c.in-Err.ensures.numbered)
