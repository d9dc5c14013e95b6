use Rattle.std.proofs.Common.{arith, refl}
use Rattle.pd_tree.proofs.StackLemmas.{pushed_number}
use Rattle.pd_tree.proofs.stack.Stack.again.Goals as goal

pub returns-clause-number : goal.returns-clause-number
returns-clause-number g c =
    let old = c.args.self.now in
    pushed_number g.V.Value.SIZE old.places.items old.places.items old.depth (record { block = c.index_mut.result.now.block; next = 0 }) (omega (arith, c.requires)) (λ i none below. refl) (omega (arith, c.requires))
