use Rattle.std.proofs.Common.{◌≡◌, ℕ, ◌++◌, List, take, Option}
use Rattle.std.specs.List.{flat_map}
use Rattle.pd_grammar.specs.Lines.{fault_line}
use Rattle.pd_lines.specs.Pieces.{Gathers}
use Rattle.pd_lines.proofs.report.add_faults.Given as goal

abbrev pub invariant-loop-i : goal.invariant-loop-i
invariant-loop-i g l =
    ((g.K.Sink.state l.out).access ≡ (g.K.Sink.state l.fn.out).access)
    × ((g.K.Sink.state l.out).path ≡ (g.K.Sink.state l.fn.out).path)
    × ((g.K.Sink.state l.out).faults ≡ (g.K.Sink.state l.fn.out).faults)
    × ((total : List ℕ) (start : Option (List ℕ)) → Gathers total l.fn.pieces start (g.K.Sink.state l.fn.out).written
    → Gathers (total ++ flat_map fault_line (take l.i l.report.faults)) l.pieces start (g.K.Sink.state l.out).written)
