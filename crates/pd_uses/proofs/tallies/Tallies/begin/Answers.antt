use Rattle.std.proofs.Common.{refl}
use Rattle.pd_uses.proofs.ListWalkLemmas.{takes_device}
use Rattle.pd_uses.proofs.tallies.Tallies.begin.Goals as goal

pub returns : goal.returns
returns c = takes_device c.args.self.now (record { users = c.args.self.now.users; exclusive = c.push.new.self }) refl c.in_ok-push.ensures.items
