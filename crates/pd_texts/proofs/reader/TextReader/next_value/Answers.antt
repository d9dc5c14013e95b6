use Rattle.std.proofs.Common.{inl, Some}
use Rattle.pd_texts.proofs.TextLemmas.{gives_line, gives_last, gives_more, gives_end}
use Rattle.pd_texts.proofs.PastLemmas.{past_before}
use Rattle.pd_texts.proofs.reader.TextReader.next_value.Goals as goal

pub returns-in-Ok-Some-clause-lines : goal.returns-in-Ok-Some-clause-lines
returns-in-Ok-Some-clause-lines g c = λ before some on.
    let t = g.P.TextState in
    let read = rw c.in-Ok-Some.field-0-is at (c.in-Ok-Some.ensures.lines before some on) in
    gives_line t.format t.Stands (t.first_line c.read_later.new.self.state) t.meant c.in-Ok-Some.line before c.read_later.new.self some (g.met.P.TextState.ends (Some c.in-Ok-Some.line)) read

pub returns-in-Ok-Some-clause-text : goal.returns-in-Ok-Some-clause-text
returns-in-Ok-Some-clause-text g c = λ text before some on leaves.
    let t = g.P.TextState in
    let more = rw c.in-Ok-Some.field-0-is at (c.in-Ok-Some.ensures.text text before some on leaves) in
    gives_more t.format (t.first_line c.read_later.new.self.state) t.meant c.in-Ok-Some.line text before c.read_later.new.self (g.S.Source.state c.read_later.new.source).left some more

pub returns-in-Ok-None-clause-lines : goal.returns-in-Ok-None-clause-lines
returns-in-Ok-None-clause-lines g c = λ before some on.
    let t = g.P.TextState in
    let read = rw c.in-Ok-None.field-0-is at (c.in-Ok-None.ensures.lines before some on) in
    gives_last t.format t.Stands (t.first_line c.read_end.new.self.state) t.meant c.read_end.result before c.read_later.new.self c.read_end.new.self some c.read_end.ensures.none read

pub returns-in-Ok-None-clause-text : goal.returns-in-Ok-None-clause-text
returns-in-Ok-None-clause-text g c = λ text before some on leaves.
    let t = g.P.TextState in
    let read = rw c.in-Ok-None.field-0-is at (c.in-Ok-None.ensures.lines before some on) in
    let more = rw c.in-Ok-None.field-0-is at (c.in-Ok-None.ensures.text text before some on leaves) in
    gives_end t.format (t.first_line c.read_end.new.self.state) t.meant c.read_end.result text before c.read_end.new.self (g.S.Source.state c.read_end.new.source).left some
    c.read_end.ensures.none (c.read_end.ensures.text text before read more)

pub returns-in-Err-clause-text : goal.returns-in-Err-clause-text
returns-in-Err-clause-text g c = λ text before some on leaves. inl (c.in-Err.ensures.text text before some on leaves)

pub returns-in-Ok-None-clause-past : goal.returns-in-Ok-None-clause-past
returns-in-Ok-None-clause-past g c = past_before c.read_end.result _ _ c.read_later.ensures.onward c.read_end.ensures.past
