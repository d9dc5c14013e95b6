use Rattle.std.proofs.Common.{slice_index, sym}
use Rattle.pd_grammar.proofs.TableLemmas.{values_at}
use Rattle.pd_texts.specs.Words.{seen_by}
use Rattle.pd_texts.specs.Words.{words_in, name_at}
use Rattle.pd_texts.proofs.ValueLemmas.{read_none, read_elsewhere, read_words, read_err}
use Rattle.pd_texts.proofs.state.read_line.Goals as goal

pub returns-in-None-clause-line : goal.returns-in-None-clause-line
returns-in-None-clause-line g c = λ before stands some.
    let t = g.P.TextState in
    read_none t.format t.table t.by_table before c.args.text.now c.cut_word.result.0.now (words_in c.cut_word.result.1) some c.requires.text c.cut_word.ensures c.in-None.ensures

pub returns-then-not-may_stand-clause-line : goal.returns-then-not-may_stand-clause-line
returns-then-not-may_stand-clause-line g c = λ before stands some.
    let t = g.P.TextState in
    read_elsewhere t.format t.table t.by_table before c.args.text.now c.cut_word.result.0.now (words_in c.cut_word.result.1) some c.requires.text c.cut_word.ensures (t.kind_meant c.in-Some.kind) c.in-Some.ensures
    (c.if-not-may_stand.ensures before stands)

pub returns-in-Ok-clause-line : goal.returns-in-Ok-clause-line
returns-in-Ok-clause-line g c = λ before stands some.
    let t = g.P.TextState in
    read_words t.format t.table t.by_table before c.args.text.now c.cut_word.result.0.now (words_in c.cut_word.result.1) some c.requires.text c.cut_word.ensures (t.kind_meant c.in-Some.kind)
    (values_at (t.kind_meant c.in-Some.kind).fields (name_at c.read_values.new.names) (slice_index c.read_values.new.numbers)) (seen_by t.meant c.take.result) c.in-Some.ensures
    (c.if-not-may_stand.ensures before stands) (rw (← c.fields.ensures.fields) c.in-Ok.ensures) (c.take.ensures.line before stands some)

pub returns-in-Err-clause-line : goal.returns-in-Err-clause-line
returns-in-Err-clause-line g c = λ before stands some.
    let t = g.P.TextState in
    read_err t.format t.table t.by_table before c.args.text.now c.cut_word.result.0.now (words_in c.cut_word.result.1) some c.requires.text c.cut_word.ensures (t.kind_meant c.in-Some.kind) c.in-Err.cause c.in-Some.ensures
    (c.if-not-may_stand.ensures before stands) (rw (← c.fields.ensures.fields) c.in-Err.ensures)

pub returns-in-Ok-clause-after : goal.returns-in-Ok-clause-after
returns-in-Ok-clause-after g c = λ before stands some.
    c.take.ensures.after before stands some c.requires.room (sym (c.if-not-may_stand.ensures before stands))
