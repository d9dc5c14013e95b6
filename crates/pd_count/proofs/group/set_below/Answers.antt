use Rattle.std.proofs.lemmas.Nat.{one_shl}
use Rattle.pd_count.proofs.PlaceLemmas.{before_some}
use Rattle.pd_count.proofs.group.set_below.Goals as goal

pub returns : goal.returns
returns c = before_some c.args.bits c.args.i _ (one_shl c.args.i 64 c.requires)
