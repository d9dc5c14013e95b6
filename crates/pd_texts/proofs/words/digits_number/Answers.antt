use Rattle.std.proofs.Common.{sym, ◌∙◌}
use Rattle.pd_texts.proofs.WordLemmas.{digits_fail, digits_next, digits_end}
use Rattle.pd_texts.proofs.words.digits_number.Goals as goal

pub returns-in-None : goal.returns-in-None
returns-in-None c = digits_fail c.args.word.now c.loop-b.b-index c.loop-b.value c.loop-b-test.true c.loop-b.invariant.1.0 (sym c.with_digit.ensures ∙ c.in-None.is)

pub loop-b-preserved : goal.loop-b-preserved
loop-b-preserved c =
    digits_next c.args.word.now c.loop-b.b-index c.loop-b.value c.in-Some.next c.loop-b-test.true c.loop-b.invariant.0 c.loop-b.invariant.1.0 (sym c.with_digit.ensures ∙ c.in-Some.is)

pub returns : goal.returns
returns c = digits_end c.args.word.now c.loop-b.b-index c.loop-b.value c.loop-b-test.false c.loop-b.invariant.1.1 c.loop-b.invariant.0 c.loop-b.invariant.1.0
