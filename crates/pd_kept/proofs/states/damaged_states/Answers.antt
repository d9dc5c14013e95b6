use Rattle.pd_tree.proofs.NextLemmas.{if_both}
use Rattle.pd_laid.specs.FoundRoots.{lost_graph}
use Rattle.pd_answers.specs.DamagedStates.{damaged_states}
use Rattle.pd_damaged.specs.Listed.{HasKeptDevices}
use Rattle.pd_kept.proofs.StatesLemmas.{listed_of}
use Rattle.pd_kept.proofs.states.damaged_states.Goals as goal

pub returns-in-Ok-clause-found : goal.returns-in-Ok-clause-found
returns-in-Ok-clause-found g c =
    if_both (g.D.Device.state c.args.dev.now).held
    (λ image held_is are have.
    listed_of (HasKeptDevices (lost_graph image c.args.data_blocks) image) (damaged_states (lost_graph image c.args.data_blocks) image) c.in-Ok.states.items c.best_of.result
    c.best_of.ensures.best c.best_of.ensures.number are have)
    c.in-Ok.ensures.states c.in-Ok.ensures.devices
