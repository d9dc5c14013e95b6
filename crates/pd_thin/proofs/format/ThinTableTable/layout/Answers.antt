use Rattle.std.proofs.Common.{◌≡◌, refl, arith}
use Rattle.pd_kinds.specs.ThinFormat.{thin_layout}
use Rattle.pd_thin.proofs.format.ThinTableTable.layout.Goals as goal

pub returns-in-4 : goal.returns-in-4
unfolding thin_layout
returns-in-4 c = λ nr. rw c.in-4.is refl

pub returns-in-7 : goal.returns-in-7
unfolding thin_layout
returns-in-7 c = λ nr. rw c.in-7.is refl

pub returns-in_default : goal.returns-in_default
unfolding thin_layout
returns-in_default c = λ nr.
    let last : c.args.role ≡ 10 = omega arith in
    rw last refl
