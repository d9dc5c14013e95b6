use Rattle.std.proofs.Common.{◌+◌, ◌∙◌, sym, ap, arith}
use Rattle.pd_count.specs.Counted.{form_numbers}
use Rattle.pd_count.proofs.FormLemmas.{shown_dense, shown_few, shown_waiting}
use Rattle.pd_count.proofs.chunk.Chunk.are_all.Goals as goal

pub returns-then-number-eq0 : goal.returns-then-number-eq0
returns-then-number-eq0 c = λ all k below.
    let shown = shown_few c.args.self.now c.in-Few.entries.items c.deref.result.now (sym c.self.view_is ∙ ap form_numbers c.in-Few.is) c.deref.ensures.value in
    shown.within (c.args.at + k) (omega arith) ∙ (c.are_none.ensures all k below ∙ sym c.if-number-eq0.true)

pub returns-in-Dense : goal.returns-in-Dense
returns-in-Dense c = λ all k below.
    let shown = shown_dense c.args.self.now c.in-Dense.digits.items c.deref-in-Dense.result.now (sym c.self.view_is ∙ ap form_numbers c.in-Dense.is) c.deref-in-Dense.ensures.value in
    shown.within (c.args.at + k) (omega arith) ∙ c.are_all.ensures all k below

pub returns-in-Waiting : goal.returns-in-Waiting
returns-in-Waiting c = λ all k below.
    let shown = shown_waiting c.args.self.now c.in-Waiting.waiting.value c.deref-in-Waiting.result.now (sym c.self.view_is ∙ ap form_numbers c.in-Waiting.is) c.deref-in-Waiting.ensures in
    shown.within (c.args.at + k) (omega arith) ∙ c.are_all-in-Waiting.ensures all k below
