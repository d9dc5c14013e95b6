use Rattle.std.proofs.Common.{◌∙◌, sym, ap}
use Rattle.pd_count.specs.Counted.{digits_number, entered, form_numbers, waiting_number}
use Rattle.pd_count.proofs.FormLemmas.{copied, shown_dense, shown_few, shown_waiting}
use Rattle.pd_count.proofs.chunk.Chunk.copy.Goals as goal

pub returns-in-Few : goal.returns-in-Few
returns-in-Few c =
    let read = c.deref.result.now in
    let shown = shown_few c.args.self.now c.in-Few.entries.items read (sym c.self.view_is ∙ ap form_numbers c.in-Few.is) c.deref.ensures.value in
    copied 16320 (entered read) c.args.self.now c.copy.new.numbers c.requires.made shown c.copy.ensures.size c.copy.ensures.numbers

pub returns-in-Dense : goal.returns-in-Dense
returns-in-Dense c =
    let read = c.deref-in-Dense.result.now in
    let shown = shown_dense c.args.self.now c.in-Dense.digits.items read (sym c.self.view_is ∙ ap form_numbers c.in-Dense.is) c.deref-in-Dense.ensures.value in
    copied 16320 (digits_number read) c.args.self.now c.copy-in-Dense.new.numbers c.requires.made shown c.copy-in-Dense.ensures.size c.copy-in-Dense.ensures.numbers

pub returns-in-Waiting : goal.returns-in-Waiting
returns-in-Waiting c =
    let shown = shown_waiting c.args.self.now c.in-Waiting.waiting.value c.deref-in-Waiting.result.now (sym c.self.view_is ∙ ap form_numbers c.in-Waiting.is) c.deref-in-Waiting.ensures in
    copied 16320 (waiting_number c.deref-in-Waiting.result.now) c.args.self.now c.copy-in-Waiting.new.numbers c.requires.made shown c.copy-in-Waiting.ensures.size c.copy-in-Waiting.ensures.numbers
