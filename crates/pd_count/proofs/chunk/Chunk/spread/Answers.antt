use Rattle.std.proofs.Common.{◌∙◌, sym, ap}
use Rattle.pd_count.specs.Counted.{digits_number, entered, form_numbers}
use Rattle.pd_count.proofs.FormLemmas.{shown_few, spread_same}
use Rattle.pd_count.proofs.chunk.Chunk.spread.Goals as goal

pub returns : goal.returns
returns c =
    let read = c.deref.result.now in
    let shown = shown_few c.args.self.now c.in-Few.entries.items read (sym c.self.view_is ∙ ap form_numbers c.in-Few.is) c.deref.ensures.value in
    c.in_ok-self-inside.ensures.same ∙ spread_same 16320 (entered read) (digits_number c.in_ok-digits.digits.items) c.args.self.now c.requires shown c.in_ok-digits.ensures.numbers
