use Rattle.std.proofs.Common.{◌∙◌, refl, ap, List, length-set}
use Rattle.std.proofs.lemmas.List.{take_all}
use Rattle.pd_count.specs.declared.few.Entry.{Entry}
use Rattle.pd_count.specs.Counted.{entered}
use Rattle.pd_count.proofs.EntryLemmas.{entered_written, number_at}
use Rattle.pd_count.proofs.few.copy.Goals as goal

pub loop-i-preserved : goal.loop-i-preserved
loop-i-preserved c =
    let entries = c.args.entries.now in (
      length-set c.loop-i.numbers c.place.result (number_at entries c.loop-i.i) ∙ c.loop-i.invariant.0,
      entered_written entries c.requires.entries c.loop-i.i c.place.result (number_at entries c.loop-i.i) c.loop-i.numbers c.loop-i-test.true c.place.ensures refl
          c.loop-i.invariant.0 c.loop-i.invariant.1,
    )

pub returns-clause-numbers : goal.returns-clause-numbers
returns-clause-numbers c k _ =
    c.loop-i.invariant.1 k ∙ ap (λ (es : List Entry). entered es k) (take_all c.loop-i.i c.args.entries.now c.loop-i-test.false)
