use Rattle.pd_laws_changed.proofs.Whole.{meaning_same}
use Rattle.pd_laws_changed.proofs.alike.alike_pools_mean_the_same.Goals as goal

pub returns : goal.returns
returns c = λ until image other alike looks none. meaning_same image other alike (c.pools_in_order_are_known.ensures until image looks none)
