use Rattle.std.proofs.Common.{◌∙◌, sym, ap}
use Rattle.pd_count.specs.Counted.{digits_number, entered, form_numbers, waiting_number}
use Rattle.std.proofs.Common.{refl}
use Rattle.pd_count.proofs.FormLemmas.{first_shown, shown_dense, shown_few, shown_waiting}
use Rattle.pd_count.proofs.chunk.Chunk.first.Goals as goal

pub returns-in-Few : goal.returns-in-Few
returns-in-Few c =
    let read = c.deref.result.now in
    let shown = shown_few c.args.self.now c.in-Few.entries.items read (sym c.self.view_is ∙ ap form_numbers c.in-Few.is) c.deref.ensures.value in
    first_shown c.first_entered.result c.args.from c.args.least 16320 c.args.self.now (entered read) refl shown c.requires.least c.first_entered.ensures

pub returns-in-Dense : goal.returns-in-Dense
returns-in-Dense c =
    let read = c.deref-in-Dense.result.now in
    let shown = shown_dense c.args.self.now c.in-Dense.digits.items read (sym c.self.view_is ∙ ap form_numbers c.in-Dense.is) c.deref-in-Dense.ensures.value in
    first_shown c.first.result c.args.from c.args.least 16320 c.args.self.now (digits_number read) refl shown c.requires.least c.first.ensures

pub returns-in-Waiting : goal.returns-in-Waiting
returns-in-Waiting c =
    let shown = shown_waiting c.args.self.now c.in-Waiting.waiting.value c.deref-in-Waiting.result.now (sym c.self.view_is ∙ ap form_numbers c.in-Waiting.is) c.deref-in-Waiting.ensures in
    first_shown c.first-in-Waiting.result c.args.from c.args.least 16320 c.args.self.now (waiting_number c.deref-in-Waiting.result.now) refl shown c.requires.least c.first-in-Waiting.ensures
