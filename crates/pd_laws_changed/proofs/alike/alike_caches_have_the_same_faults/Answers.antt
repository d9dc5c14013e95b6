use Rattle.pd_kinds.specs.declared.kind.Stage.TheVariants.{Order}
use Rattle.pd_laws_changed.proofs.AlikeCaches.{all_faults_same, clean_checksum}
use Rattle.pd_laws_changed.proofs.alike.alike_caches_have_the_same_faults.Goals as goal

pub returns : goal.returns
returns c = λ some until image other alike none.
    all_faults_same image other alike (clean_checksum some image none) (c.caches_in_order_are_known.ensures Order image tt) until
