use Rattle.std.proofs.Common.{[], ◌∷◌, refl}
use Rattle.pd_kinds.specs.Whole.{array_whole}
use Rattle.pd_check.proofs.ArrayRules.{arrays_stay, both_charged, index_charged}
use Rattle.pd_check.proofs.array_rules.check_array.Goals as goal

pub returns-in-Some-clause-charges : goal.returns-in-Some-clause-charges
unfolding array_whole
returns-in-Some-clause-charges c = λ graph image has marked reached.
    let later = arrays_stay graph image c.args.audit.now c.charge.new.audit c.args.roles c.charge.ensures.kept has in
    rw c.in-Some.is
    (both_charged graph image c.args.audit.now c.args.roles c.args.marks.now c.args.root (c.in-Some.number ∷ []) has marked reached
    c.is_index_bad-index_bad.result c.has_words-right.result c.in-Some.number c.args.audit.now c.charge.new.audit c.charge-in-Some.new.audit
    (c.is_index_bad-index_bad.ensures graph image c.args.roles (c.in-Some.number ∷ []) has marked reached)
    (c.has_words-right.ensures graph image c.args.roles (c.in-Some.number ∷ []) later marked reached refl)
    c.charge.ensures c.charge-in-Some.ensures)

pub returns-in_default-clause-charges : goal.returns-in_default-clause-charges
unfolding array_whole
returns-in_default-clause-charges c = λ graph image has marked reached.
    rw c.in_default.is
    (index_charged graph image c.args.audit.now c.args.roles c.args.marks.now c.args.root [] has marked reached
    c.is_index_bad-index_bad.result c.args.audit.now c.charge.new.audit
    (c.is_index_bad-index_bad.ensures graph image c.args.roles [] has marked reached)
    c.charge.ensures)
