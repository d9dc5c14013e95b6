use Rattle.pd_kinds.specs.declared.kind.Stage.TheVariants.{Whole}
use Rattle.pd_laws_changed.proofs.SettledLemmas.{same_view}
use Rattle.pd_laws_changed.proofs.settled.settled_caches_show_the_same.Goals as goal

pub returns : goal.returns
returns c = λ image origin fast is none. same_view image is none (c.caches_in_order_are_known.ensures Whole image tt none) origin fast
