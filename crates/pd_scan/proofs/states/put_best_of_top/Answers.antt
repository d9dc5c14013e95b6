use Rattle.std.proofs.Common.{ap}
use Rattle.pd_kinds.proofs.ResultLemmas.{on_ok_both}
use Rattle.pd_graph.specs.declared.notes.Note.{Note}
use Rattle.pd_scan.proofs.StateLemmas.{no_state, one_state}
use Rattle.pd_scan.proofs.states.put_best_of_top.Goals as goal

pub returns-in-None : goal.returns-in-None
returns-in-None c tops are = no_state c.args.trees.now c.args.top tops c.args.found.now c.in-None.ensures.best are

pub returns-in-Some : goal.returns-in-Some
returns-in-Some c =
    on_ok_both c.put_state.result c.put_state.ensures.best c.put_state.ensures.number
    (λ put counted tops are.
    one_state c.args.trees.now c.args.top tops c.args.found.now c.put_state.new.found (record { roots = c.in-Some.roots; devices = c.note-devices.result.below })
    c.in-Some.ensures.best c.in-Some.ensures.own (ap (λ (n : Note). n.below) c.note-devices.ensures) put counted are)
