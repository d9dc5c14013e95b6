use Rattle.std.proofs.Common.{sym, arith}
use Rattle.pd_texts.proofs.WordLemmas.{cut_digits, whole_digits, digits_are, first_is, first_number}
use Rattle.pd_texts.proofs.words.cut_number.Goals as goal

pub returns-then-len-bytes-clause-cut : goal.returns-then-len-bytes-clause-cut
returns-then-len-bytes-clause-cut c = first_is c.args.bytes.now _ _ (whole_digits c.args.bytes.now c.first_digits-value.result.1 c.if-len-bytes.true c.first_digits-value.ensures.digits)

pub returns-then-len-bytes-clause-number : goal.returns-then-len-bytes-clause-number
returns-then-len-bytes-clause-number c =
    first_number c.args.bytes.now _ _ _ (whole_digits c.args.bytes.now c.first_digits-value.result.1 c.if-len-bytes.true c.first_digits-value.ensures.digits)
    (digits_are _ _ (sym (c.if-not-is_canonical.ensures c.first_digits-value.ensures.digits)) (sym c.first_digits-value.ensures.value) (omega arith))

pub returns-then-bytes-len-eq32-clause-cut : goal.returns-then-bytes-len-eq32-clause-cut
returns-then-bytes-len-eq32-clause-cut c =
    first_is c.args.bytes.now _ _ (cut_digits c.args.bytes.now c.first_digits-value.result.1 (omega arith) c.if-bytes-len-eq32.true c.first_digits-value.ensures.digits)

pub returns-then-bytes-len-eq32-clause-number : goal.returns-then-bytes-len-eq32-clause-number
returns-then-bytes-len-eq32-clause-number c =
    first_number c.args.bytes.now _ _ _ (cut_digits c.args.bytes.now c.first_digits-value.result.1 (omega arith) c.if-bytes-len-eq32.true c.first_digits-value.ensures.digits)
    (digits_are _ _ (sym (c.if-not-is_canonical.ensures c.first_digits-value.ensures.digits)) (sym c.first_digits-value.ensures.value) (omega arith))
