use Rattle.std.proofs.Common.{inl}
use Rattle.pd_texts.specs.Reader.{begun}
use Rattle.pd_texts.proofs.TextLemmas.{some_begun, line_begun, text_begun}
use Rattle.pd_texts.proofs.PastLemmas.{past_before}
use Rattle.pd_texts.proofs.reader.TextReader.next.Goals as goal

pub returns-in-Ok-clause-lines : goal.returns-in-Ok-clause-lines
returns-in-Ok-clause-lines g c = λ before on.
    let t = g.P.TextState in
    let first = t.first_line c.begin.new.self.state in
    line_begun t.format t.Stands (t.first_line c.next_value.new.self.state) t.meant first c.next_value.ensures.first c.next_value.result before c.next_value.new.self
    (c.next_value.ensures.lines (begun first before) (some_begun first before) (c.in-Ok.ensures.lines before on))

pub returns-in-Ok-clause-text : goal.returns-in-Ok-clause-text
returns-in-Ok-clause-text g c = λ text before on leaves.
    let t = g.P.TextState in
    let first = t.first_line c.begin.new.self.state in
    text_begun t.format (t.first_line c.next_value.new.self.state) t.meant first c.next_value.ensures.first c.next_value.result text before c.next_value.new.self (g.S.Source.state c.next_value.new.source).left
    (c.next_value.ensures.text text (begun first before) (some_begun first before) (c.in-Ok.ensures.lines before on) (c.in-Ok.ensures.text text before on leaves))

pub returns-in-Err-clause-text : goal.returns-in-Err-clause-text
returns-in-Err-clause-text g c = λ text before on leaves. inl (c.in-Err.ensures.text text before on leaves)

pub returns-in-Ok-clause-past : goal.returns-in-Ok-clause-past
returns-in-Ok-clause-past g c = past_before c.next_value.result _ _ c.begin.ensures.onward c.next_value.ensures.past
