use Rattle.std.proofs.Common.{◌≡◌, ◌<◌, ◌^◌, arith, sym, ◌∙◌, ap, decimal}
use Rattle.std.proofs.lemmas.Bool.{true≢false}
use Rattle.std.proofs.lemmas.Slice.Eq.{bytes_eq-Decides}
use Rattle.pd_words.proofs.NumberLemmas.{printed, not_printed, unread_number, read_as_one}
use Rattle.pd_words.proofs.values.number.Goals as goal

pub returns-in-Err : goal.returns-in-Err
returns-in-Err c = sym (unread_number c.args.word.now c.in-Err.field-0 c.in-Err.ensures.value.0)

pub returns-then-eq : goal.returns-then-eq
returns-then-eq c =
    let same = (bytes_eq-Decides c.format.result.now c.args.word.now).0 (sym c.eq.ensures ∙ c.if-eq.true) in
    let fits : c.in-Ok.number < 2 ^ 64 = omega arith in
    sym (printed c.in-Ok.number c.args.word.now fits (sym same ∙ c.format.ensures.text))

pub returns-else-eq : goal.returns-else-eq
returns-else-eq c =
    sym (not_printed c.args.word.now (λ n low same.
    let one = read_as_one c.in-Ok.number c.args.word.now c.in-Ok.ensures.value.0 n low same in
    let printed : c.format.result.now ≡ c.args.word.now = c.format.ensures.text ∙ ap decimal one ∙ sym same in
    true≢false (sym ((bytes_eq-Decides c.format.result.now c.args.word.now).1 printed) ∙ (sym c.eq.ensures ∙ c.if-eq.false))))
