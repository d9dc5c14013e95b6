use Rattle.std.proofs.Common.{ℕ, ◌+◌, ap₂}
use Rattle.pd_devices.specs.SharedGrowth.{held_runs}
use Rattle.pd_devices.specs.Told.{own_piece, with_pieces}
use Rattle.pd_devices.proofs.PieceLemmas.{held_can}
use Rattle.pd_devices.proofs.ending.end_tree.Goals as goal

pub end_piece-requires-clause-can : goal.end_piece-requires-clause-can
end_piece-requires-clause-can g c = held_can c.requires.can.runs_are c.requires.can.small

pub finish-requires-clause-can : goal.finish-requires-clause-can
finish-requires-clause-can g c =
    let can = c.requires.can in
    let did = c.in_ok-end_piece.ensures in
    let number = ap₂ (λ (m n : ℕ). m + n) did.own did.uses in
    record {
      leaves = can.leaves;
      device = with_pieces (own_piece (held_runs c.args.held.now)) can.device;
      low = can.end;
      from = can.from;
      grown = did.grown can.leaves can.device can.blocks can.low can.end can.from can.grown can.runs_are;
      room = rw (number, did.moved, did.closed.kept.blocks) can.room;
    }

pub returns-clause-wrote : goal.returns-clause-wrote
returns-clause-wrote g c leaves d blocks low end from grown held =
    c.in_ok-root.ensures.wrote leaves (with_pieces (own_piece (held_runs c.args.held.now)) d) end from (c.in_ok-end_piece.ensures.grown leaves d blocks low end from grown held)

pub returns-clause-root : goal.returns-clause-root
returns-clause-root g c leaves d blocks low end from grown held =
    c.in_ok-root.ensures.root leaves (with_pieces (own_piece (held_runs c.args.held.now)) d) end from (c.in_ok-end_piece.ensures.grown leaves d blocks low end from grown held)

pub returns-clause-id : goal.returns-clause-id
returns-clause-id g c = c.in_ok-end_piece.ensures.id
