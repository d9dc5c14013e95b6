use Rattle.std.proofs.Common.{sym, slice_index, arith}
use Rattle.pd_texts.proofs.WordLemmas.{digit_low, digit_more, digits_fit}
use Rattle.pd_texts.proofs.words.first_digits.Goals as goal

pub overflow_mul-value : goal.overflow_mul-value
overflow_mul-value c = record { fits = omega (arith, digits_fit c.loop-i.value c.loop-i.i c.loop-i.invariant.1.1 (omega arith)) }

pub overflow_add-value : goal.overflow_add-value
overflow_add-value c =
    let low = digit_low (slice_index c.args.bytes.now c.loop-i.i) (sym c.if-not-is_ascii_digit.ensures.value) in
    record { fits = omega (arith, low, digits_fit c.loop-i.value c.loop-i.i c.loop-i.invariant.1.1 (omega arith)) }

pub loop-i-preserved : goal.loop-i-preserved
loop-i-preserved c =
    digit_more c.args.bytes.now c.loop-i.i c.loop-i.value (omega arith) c.loop-i.invariant.0 c.loop-i.invariant.1.0 c.loop-i.invariant.1.1 (sym c.if-not-is_ascii_digit.ensures.value)
