use Rattle.std.proofs.Common.{◌∙◌, sym, ap, subst, arith}
use Rattle.pd_count.specs.Counted.{AreEntries, IsForm, digits_number, entered, form_numbers, waiting_number}
use Rattle.pd_count.proofs.EntryLemmas.{zeros_counted}
use Rattle.pd_count.proofs.FormLemmas.{shown_dense, shown_few, shown_waiting, zeros_shown}
use Rattle.pd_count.proofs.chunk.Chunk.zeros.Goals as goal
use Rattle.pd_count.proofs.chunk.Chunk.zeros.Goals.{After-counted_below}

-- the entries that were read
are_read : (c : After-counted_below) → AreEntries c.deref.result.now
are_read c = subst AreEntries (sym c.deref.ensures.value) (subst IsForm c.in-Few.is c.self.invariant)

pub overflow_sub-result : goal.overflow_sub-result
overflow_sub-result c =
    let all = zeros_counted c.deref.result.now (are_read c) c.args.covered in
    omega (arith, c.counted_below.ensures)

pub returns-in-Few-clause-zeros : goal.returns-in-Few-clause-zeros
returns-in-Few-clause-zeros c =
    let read = c.deref.result.now in
    let are : AreEntries read = subst AreEntries (sym c.deref.ensures.value) (subst IsForm c.in-Few.is c.self.invariant) in
    let shown = shown_few c.args.self.now c.in-Few.entries.items read (sym c.self.view_is ∙ ap form_numbers c.in-Few.is) c.deref.ensures.value in
    let all = zeros_counted read are c.args.covered in
    let zeros = zeros_shown 16320 c.args.covered (entered read) c.args.self.now c.requires.covered c.requires.made shown in
    omega (arith, c.counted_below.ensures)

pub returns-in-Dense-clause-zeros : goal.returns-in-Dense-clause-zeros
returns-in-Dense-clause-zeros c =
    let read = c.deref-in-Dense.result.now in
    let shown = shown_dense c.args.self.now c.in-Dense.digits.items read (sym c.self.view_is ∙ ap form_numbers c.in-Dense.is) c.deref-in-Dense.ensures.value in
    c.zeros.ensures.zeros ∙ zeros_shown 16320 c.args.covered (digits_number read) c.args.self.now c.requires.covered c.requires.made shown

pub returns-in-Waiting-clause-zeros : goal.returns-in-Waiting-clause-zeros
returns-in-Waiting-clause-zeros c =
    let shown = shown_waiting c.args.self.now c.in-Waiting.waiting.value c.deref-in-Waiting.result.now (sym c.self.view_is ∙ ap form_numbers c.in-Waiting.is) c.deref-in-Waiting.ensures in
    c.zeros-in-Waiting.ensures.zeros ∙ zeros_shown 16320 c.args.covered (waiting_number c.deref-in-Waiting.result.now) c.args.self.now c.requires.covered c.requires.made shown
