use Rattle.pd_restore.specs.Pools.{ended_state}
use Rattle.pd_restore.proofs.BeginLemmas.{given, known_failed, known_lacking, known_made, known_refused, known_short, text_given}
use Rattle.pd_restore.proofs.known.restore_fitting.Goals as goal

pub returns-in-Ok-clause-made : goal.returns-in-Ok-clause-made
returns-in-Ok-clause-made g c w gives fits =
    known_made w c.args.begun gives c.args.room (ended_state c.restore_begun.new.source) (g.D.Device.state c.args.dev.now) (g.D.Device.state c.restore_begun.new.dev)
    c.requires.here fits (c.in-Ok.ensures.restored (given gives.text) (text_given gives.text c.args.begun gives.leaves))

pub returns-in-Memory-clause-made : goal.returns-in-Memory-clause-made
returns-in-Memory-clause-made g c w gives fits =
    known_lacking w c.args.begun gives c.args.room (ended_state c.restore_begun.new.source) (g.D.Device.state c.args.dev.now) (g.D.Device.state c.restore_begun.new.dev)
    c.requires.here fits (rw c.in-Memory.is at (c.in-Err.ensures.restored (given gives.text) (text_given gives.text c.args.begun gives.leaves)))

pub returns-in-Device-clause-made : goal.returns-in-Device-clause-made
returns-in-Device-clause-made g c w gives fits =
    known_failed w c.args.begun gives c.args.room (ended_state c.restore_begun.new.source) (g.D.Device.state c.args.dev.now) (g.D.Device.state c.restore_begun.new.dev)
    c.requires.here fits (rw c.in-Device.is at (c.in-Err.ensures.restored (given gives.text) (text_given gives.text c.args.begun gives.leaves)))

pub unreachable-requires-in-Text : goal.unreachable-requires-in-Text
unreachable-requires-in-Text g c =
    let some = c.requires.some in
    known_refused some.shape c.args.begun some.gives c.args.room (ended_state c.restore_begun.new.source) (g.D.Device.state c.args.dev.now) (g.D.Device.state c.restore_begun.new.dev)
    c.requires.here some.fits c.in-Text.field-0
    (rw c.in-Text.is at (c.in-Err.ensures.restored (given some.gives.text) (text_given some.gives.text c.args.begun some.gives.leaves)))

pub returns-in-NoRoom-clause-made : goal.returns-in-NoRoom-clause-made
returns-in-NoRoom-clause-made g c w gives fits =
    absurd (known_short w c.args.begun gives c.args.room (ended_state c.restore_begun.new.source) (g.D.Device.state c.args.dev.now) (g.D.Device.state c.restore_begun.new.dev)
    c.requires.here fits c.in-NoRoom.more c.in-NoRoom.blocks
    (rw c.in-NoRoom.is at (c.in-Err.ensures.restored (given gives.text) (text_given gives.text c.args.begun gives.leaves))))
