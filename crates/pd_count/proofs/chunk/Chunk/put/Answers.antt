use Rattle.std.proofs.Common.{◌∙◌, sym, ap, refl}
use Rattle.pd_count.specs.Counted.{digits_number, entered, form_numbers, waiting_number}
use Rattle.pd_count.proofs.FormLemmas.{few_shows, puts_on_ok, puts_shown, shown_dense, shown_few, shown_waiting, shows_by}
use Rattle.pd_count.proofs.chunk.Chunk.put.Goals as goal

pub returns-in-Few-clause-put : goal.returns-in-Few-clause-put
returns-in-Few-clause-put c =
    let old = c.in-Few.entries.items in
    let new = c.enter.new.entries.items in
    let before = shown_few c.args.self.now old old (sym c.self.view_is ∙ ap form_numbers c.in-Few.is) refl in
    puts_on_ok c.enter.result c.args.at c.args.number c.args.self.now _ (entered old) (entered new) c.requires before (few_shows new) c.enter.ensures.put

pub returns-in-Dense-clause-put : goal.returns-in-Dense-clause-put
returns-in-Dense-clause-put c =
    let old = c.in-Dense.digits.items in
    let new = c.put.new.digits.items in
    let before = shown_dense c.args.self.now old old (sym c.self.view_is ∙ ap form_numbers c.in-Dense.is) refl in
    puts_on_ok c.put.result c.args.at c.args.number c.args.self.now _ (digits_number old) (digits_number new) c.requires before
    (shows_by 16320 (digits_number new)) c.put.ensures.put

pub returns-clause-put : goal.returns-clause-put
returns-clause-put c =
    let read = c.deref.result.now in
    let new = c.in_ok-digits-in-Waiting.digits.items in
    let before = shown_waiting c.args.self.now c.in-Waiting.waiting.value read (sym c.self.view_is ∙ ap form_numbers c.in-Waiting.is) c.deref.ensures in
    puts_shown c.args.at c.args.number 16320 c.args.self.now _ (waiting_number read) (digits_number new) refl c.requires before
    (shows_by 16320 (digits_number new)) c.in_ok-digits-in-Waiting.ensures.put
