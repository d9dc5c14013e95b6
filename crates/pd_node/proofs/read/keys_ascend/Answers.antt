use Rattle.std.proofs.Common.{arith, suc}
use Rattle.pd_node.proofs.Shape.{ascending_pairs, ascending_from}
use Rattle.pd_node.proofs.read.keys_ascend.Goals as goal

pub returns : goal.returns
returns c = λ keys. (λ ascend i j before within. ascending_pairs keys i j ascend before within, λ below. ascending_from keys (λ i h. below i (suc i) (omega arith) h))
