use Rattle.std.proofs.Common.{◌≡◌, refl, arith}
use Rattle.pd_kinds.specs.CacheFormat.{cache_layout}
use Rattle.pd_cache.proofs.format.CacheTableTable.layout.Goals as goal

pub returns-in-9 : goal.returns-in-9
unfolding cache_layout
returns-in-9 c = λ nr. rw c.in-9.is refl

pub returns-in_default : goal.returns-in_default
unfolding cache_layout
returns-in_default c = λ nr.
    let last : c.args.role ≡ 11 = omega arith in
    rw last refl
