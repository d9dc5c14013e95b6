use Rattle.pd_kinds.specs.declared.kind.Kind.TheVariants.{Thin}
use Rattle.pd_kinds.specs.declared.kind.Stage.TheVariants.{Order}
use Rattle.pd_laws_changed.proofs.Pools.{clean_checksum}
use Rattle.pd_laws_changed.proofs.Verdict.{clean_super, faults_same}
use Rattle.pd_laws_changed.proofs.alike.alike_pools_have_the_same_faults.Goals as goal

pub returns : goal.returns
returns c = λ some until image other alike none.
    faults_same image other alike (clean_checksum image (clean_super Thin some image none)) (c.pools_in_order_are_known.ensures Order image tt) until
