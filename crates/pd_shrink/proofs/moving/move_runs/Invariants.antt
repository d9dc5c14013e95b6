use Rattle.std.proofs.Common.{◌≡◌, ◌≤◌, map, take, drop}
use Rattle.pd_answers.specs.Shrinks.{moved_mapping}
use Rattle.pd_meaning_thin.specs.Packed.{runs_from}
use Rattle.pd_salvage.specs.Gather.{mappings_of_runs, IsJoining}
use Rattle.pd_shrink.specs.Moves.{moves_in}
use Rattle.pd_shrink.proofs.moving.move_runs.Given as goal

-- the mappings of the runs so far were taken, and the place is behind these
abbrev pub invariant-loop : goal.invariant-loop
invariant-loop l = record {
  most : l.counter ≤ l.number;
  joining : IsJoining l.initial.runs l.runs l.joining (map (moved_mapping (moves_in l.moves)) (mappings_of_runs (take l.counter (runs_from l.all l.initial.place))));
  behind : runs_from l.all l.place ≡ drop l.counter (runs_from l.all l.initial.place);
}
