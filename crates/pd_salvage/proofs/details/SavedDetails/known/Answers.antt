use Rattle.std.proofs.Common.{refl, arith}
use Rattle.pd_salvage.proofs.AscendLemmas.{knows_here, knows_nothing, knows_past}
use Rattle.pd_salvage.proofs.details.SavedDetails.known.Goals as goal

pub returns-then-key-id : goal.returns-then-key-id
returns-then-key-id c = knows_here c.args.id c.in-Some.key c.in-Some.details c.args.self.now c.in-Some.is (omega arith)

pub returns-then-key-id-2 : goal.returns-then-key-id-2
returns-then-key-id-2 c = knows_past c.args.id c.in-Some.key c.in-Some.details c.args.self.now c.in-Some.is (omega arith)

pub returns-else-key-id-2 : goal.returns-else-key-id-2
returns-else-key-id-2 c = knows_nothing c.args.id c.in-Some.key c.in-Some.details c.args.self.now c.in-Some.is _ (omega arith) refl refl
