use Rattle.pd_draft.specs.DraftState.{draft_state}
use Rattle.pd_devices.specs.SharedGrowth.{held_runs}
use Rattle.pd_devices.specs.Told.{own_piece, with_pieces}
use Rattle.pd_devices.proofs.ending.use_leaf.Goals as goal

pub returns-clause-grown : goal.returns-clause-grown
returns-clause-grown g c leaves d blocks low mid end from grown held above below is =
    c.use_leaf.ensures.grown leaves (with_pieces (own_piece (held_runs c.args.held.now)) d) mid end from (draft_state c.end_piece.new.draft)
    (c.in_ok-end_piece.ensures.grown leaves d blocks low mid from grown held) above below is
