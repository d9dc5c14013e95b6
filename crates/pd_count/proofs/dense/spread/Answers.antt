use Rattle.std.proofs.Common.{◌∙◌, ap, List, ℕ, get_or}
use Rattle.std.proofs.lemmas.List.{take_all}
use Rattle.pd_count.specs.declared.few.Entry.{Entry}
use Rattle.pd_count.specs.Counted.{digits_number, entered}
use Rattle.pd_count.proofs.FormLemmas.{no_digits}
use Rattle.pd_count.proofs.EntryLemmas.{entered_put}
use Rattle.pd_count.proofs.dense.spread.Goals as goal

pub loop-i-init : goal.loop-i-init
loop-i-init c = (
  c.in_ok-take_memory.ensures.digits,
  λ k below. no_digits c.take_memory.new.digits.items k (λ i. c.take_memory.ensures.same i ∙ ap (λ (xs : List ℕ). get_or xs i 0) c.new-digits.ensures.items),
)

pub loop-i-preserved : goal.loop-i-preserved
loop-i-preserved c = (
  c.put.ensures.digits,
  entered_put c.args.entries.now c.requires c.loop-i.i c.place.result c.number.result (digits_number c.loop-i.digits.items) (digits_number c.put.new.digits.items)
      c.loop-i-test.true c.place.ensures c.number.ensures c.in_ok-put.ensures.put c.loop-i.invariant.1,
)

pub returns-clause-numbers : goal.returns-clause-numbers
returns-clause-numbers c = λ k below.
    c.loop-i.invariant.1 k below ∙ ap (λ (es : List Entry). entered es k) (take_all c.loop-i.i c.args.entries.now c.loop-i-test.false)
