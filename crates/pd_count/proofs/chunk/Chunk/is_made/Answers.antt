use Rattle.std.proofs.Common.{◌≡◌, ◌∙◌, sym, ap, ℕ, length, arith}
use Rattle.pd_count.specs.Counted.{digits_number, few_numbers, form_numbers, numbers_by, waiting_number}
use Rattle.pd_count.proofs.FormLemmas.{few_size, size_by, some_there}
use Rattle.pd_count.proofs.chunk.Chunk.is_made.Goals as goal

pub returns-in-Few-clause-made : goal.returns-in-Few-clause-made
returns-in-Few-clause-made c = λ made.
    let entries = c.in-Few.entries in
    let is : c.args.self.now ≡ few_numbers entries.items = sym c.self.view_is ∙ ap form_numbers c.in-Few.is in
    ap (length {A = ℕ}) is ∙ few_size entries.items (omega (arith, some_there entries.len c.is_empty.result c.is_empty.ensures made, entries.ok.0))

pub returns-in-Dense-clause-made : goal.returns-in-Dense-clause-made
returns-in-Dense-clause-made c = λ made.
    let is : c.args.self.now ≡ numbers_by 16320 (digits_number c.in-Dense.field-0.items) = sym c.self.view_is ∙ ap form_numbers c.in-Dense.is in
    ap (length {A = ℕ}) is ∙ size_by 16320 (digits_number c.in-Dense.field-0.items)

pub returns-in-Waiting-clause-made : goal.returns-in-Waiting-clause-made
returns-in-Waiting-clause-made c = λ made.
    let is : c.args.self.now ≡ numbers_by 16320 (waiting_number c.in-Waiting.field-0.value) = sym c.self.view_is ∙ ap form_numbers c.in-Waiting.is in
    ap (length {A = ℕ}) is ∙ size_by 16320 (waiting_number c.in-Waiting.field-0.value)
