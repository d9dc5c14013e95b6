use Rattle.std.proofs.Common.{refl}
use Rattle.pd_kinds.specs.declared.kind.Stage.TheVariants.{Whole}
use Rattle.pd_answers.specs.Writebacks.{settled}
use Rattle.pd_laws_changed.proofs.SettledLemmas.{none_hot, same_image, same_meaning, same_super}
use Rattle.pd_laws_changed.proofs.settled.settled_caches_mean_the_same.Goals as goal

pub returns-clause-meaning : goal.returns-clause-meaning
returns-clause-meaning c = λ image is none. same_meaning image is none (c.caches_in_order_are_known.ensures Whole image tt none)

pub returns-clause-super_block : goal.returns-clause-super_block
returns-clause-super_block c = λ image is none. same_super image is none (c.caches_in_order_are_known.ensures Whole image tt none)

pub returns-clause-image : goal.returns-clause-image
returns-clause-image c = λ image is none. same_image image is none (c.caches_in_order_are_known.ensures Whole image tt none)

pub returns-clause-done : goal.returns-clause-done
returns-clause-done c = λ image is none. none_hot image is none (c.caches_in_order_are_known.ensures Whole image tt none)

pub returns-clause-cold : goal.returns-clause-cold
unfolding settled
returns-clause-cold c = λ image cold. rw cold refl
