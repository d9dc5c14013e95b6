use Rattle.pd_kinds.specs.declared.kind.Stage.TheVariants.{Whole}
use Rattle.pd_laws_changed.proofs.SettledLemmas.{same_faults}
use Rattle.pd_laws_changed.proofs.settled.settled_caches_have_the_same_faults.Goals as goal

pub returns : goal.returns
returns c = λ until image is none. same_faults image is none (c.caches_in_order_are_known.ensures Whole image tt none) until
