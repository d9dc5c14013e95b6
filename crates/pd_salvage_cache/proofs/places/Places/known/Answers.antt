use Rattle.std.proofs.Common.{refl, arith}
use Rattle.pd_salvage_cache.proofs.HeldLemmas.{knows_here, knows_nothing, knows_past}
use Rattle.pd_salvage_cache.proofs.places.Places.known.Goals as goal

pub returns-then-next-key : goal.returns-then-next-key
returns-then-next-key c = knows_here c.args.key c.in-Some.next c.in-Some.root c.args.self.now c.in-Some.is (omega arith)

pub returns-then-next-key-2 : goal.returns-then-next-key-2
returns-then-next-key-2 c = knows_past c.args.key c.in-Some.next c.in-Some.root c.args.self.now c.in-Some.is (omega arith)

pub returns-else-next-key-2 : goal.returns-else-next-key-2
returns-else-next-key-2 c = knows_nothing c.args.key c.in-Some.next c.in-Some.root c.args.self.now c.in-Some.is _ (omega arith) refl refl
