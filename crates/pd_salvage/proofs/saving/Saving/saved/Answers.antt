use Rattle.pd_salvage.proofs.SavingLemmas.{saved_is}
use Rattle.pd_salvage.proofs.saving.Saving.saved.Goals as goal

pub invariant_of-result : goal.invariant_of-result
invariant_of-result c = rw c.head_of-head.ensures.head (saved_is c.args.self c.requires.few c.requires.sound (rw c.head_of-head.ensures.head at c.head_of-head.ensures.fits))
