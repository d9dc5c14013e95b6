use Rattle.std.proofs.Common.{◌∙◌, sym, ap, List, ℕ, arith}
use Rattle.pd_count.specs.Counted.{form_numbers}
use Rattle.std.proofs.Common.{get_or}
use Rattle.pd_count.proofs.FormLemmas.{form_past, shown_dense, shown_few, shown_waiting}
use Rattle.pd_count.proofs.chunk.Chunk.get.Goals as goal

pub returns-then-at-ge-CHUNK_COUNTS : goal.returns-then-at-ge-CHUNK_COUNTS
returns-then-at-ge-CHUNK_COUNTS c =
    sym (ap (λ (ns : List ℕ). get_or ns c.args.at 0) (sym c.self.view_is) ∙ form_past c.self.inside.form c.args.at (omega arith))

pub returns-in-Few : goal.returns-in-Few
returns-in-Few c =
    let shown = shown_few c.args.self.now c.in-Few.entries.items c.deref.result.now (sym c.self.view_is ∙ ap form_numbers c.in-Few.is) c.deref.ensures.value in
    c.entered_number.ensures ∙ sym (shown.within c.args.at (omega arith))

pub returns-in-Dense : goal.returns-in-Dense
returns-in-Dense c =
    let shown = shown_dense c.args.self.now c.in-Dense.digits.items c.deref-in-Dense.result.now (sym c.self.view_is ∙ ap form_numbers c.in-Dense.is) c.deref-in-Dense.ensures.value in
    c.number.ensures ∙ sym (shown.within c.args.at (omega arith))

pub returns-in-Waiting : goal.returns-in-Waiting
returns-in-Waiting c =
    let shown = shown_waiting c.args.self.now c.in-Waiting.waiting.value c.deref-in-Waiting.result.now (sym c.self.view_is ∙ ap form_numbers c.in-Waiting.is) c.deref-in-Waiting.ensures in
    c.number-in-Waiting.ensures ∙ sym (shown.within c.args.at (omega arith))
