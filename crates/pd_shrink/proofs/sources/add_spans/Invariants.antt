use Rattle.std.proofs.Common.{◌≡◌, ◌++◌, take, drop}
use Rattle.pd_meaning_thin.specs.Packed.{runs_from}
use Rattle.pd_shrink.specs.Making.{spans_past}
use Rattle.pd_shrink.proofs.sources.add_spans.Given as goal

-- those of the runs so far were added, and the place is behind these
abbrev pub invariant-loop : goal.invariant-loop
invariant-loop l = record {
  added : l.spans.items ≡ l.initial.spans.items ++ spans_past l.fn.end (take l.counter l.runs);
  behind : runs_from l.runs l.place ≡ drop l.counter l.runs;
}
