use Rattle.std.proofs.Common.{◌≡◌, ◌∙◌, sym, subst, [], List, MatchResult, OnOk}
use Rattle.pd_texts.specs.Reader.{ReadsOn, LeavesOf, RefusesAfter, begun}
use Rattle.pd_texts.proofs.TextLemmas.{none_before}
use Rattle.pd_texts.proofs.reader.TextReader.begin.Goals as goal

pub returns-then-is_first-clause-lines : goal.returns-then-is_first-clause-lines
returns-then-is_first-clause-lines g c = λ before on.
    let t = g.P.TextState in
    let none : before ≡ [] = none_before before (sym (c.is_first.ensures before on.so_far.stands) ∙ c.if-is_first.true) in
    let Then : List t.Meant → Type 0 = λ lines. ReadsOn t.format t.Stands lines c.args.self.now
    → OnOk c.read_first.result (ReadsOn t.format t.Stands (begun (t.first_line c.read_first.new.self.state) lines) c.read_first.new.self) in
    subst Then (sym none) c.read_first.ensures.lines on

pub returns-then-is_first-clause-text : goal.returns-then-is_first-clause-text
returns-then-is_first-clause-text g c = λ text before on leaves.
    let t = g.P.TextState in
    let none : before ≡ [] = none_before before (sym (c.is_first.ensures before on.so_far.stands) ∙ c.if-is_first.true) in
    let Then : List t.Meant → Type 0 = λ lines. ReadsOn t.format t.Stands lines c.args.self.now → LeavesOf t.format text lines c.args.self.now (g.S.Source.state c.args.source.now).left
    → MatchResult c.read_first.result (λ x. LeavesOf t.format text (begun (t.first_line c.read_first.new.self.state) lines) c.read_first.new.self (g.S.Source.state c.read_first.new.source).left) (RefusesAfter t.format text lines) in
    subst Then (sym none) (c.read_first.ensures.text text) on leaves
