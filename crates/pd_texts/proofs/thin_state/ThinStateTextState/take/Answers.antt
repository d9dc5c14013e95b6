use Rattle.pd_texts.proofs.StateLemmas.{room_for_leaf}
use Rattle.pd_texts.proofs.thin_state.ThinStateTextState.take.Goals as goal

pub returns-in-Leaf-clause-after : goal.returns-in-Leaf-clause-after
returns-in-Leaf-clause-after c = λ before stands some room may.
    c.take_leaf.ensures.after before stands some (room_for_leaf c.args.self.now before stands room (rw c.in-Leaf.is at may))
