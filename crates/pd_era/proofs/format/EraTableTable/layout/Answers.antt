use Rattle.std.proofs.Common.{◌≡◌, refl, arith}
use Rattle.pd_kinds.specs.EraFormat.{era_layout}
use Rattle.pd_era.proofs.format.EraTableTable.layout.Goals as goal

pub returns-in_default : goal.returns-in_default
unfolding era_layout
returns-in_default c = λ nr.
    let last : c.args.role ≡ 9 = omega arith in
    rw last refl
