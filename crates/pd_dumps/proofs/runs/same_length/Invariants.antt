use Rattle.std.proofs.Common.{◌≡◌, map, take}
use Rattle.pd_grammar.specs.EraText.{eras_from}
use Rattle.pd_dumps.proofs.runs.same_length.Given as goal

abbrev pub invariant-loop-i : goal.invariant-loop-i
invariant-loop-i g l = map (g.R.RunKind.counts l.fn.kind) (take l.i l.fn.eras) ≡ eras_from l.fn.value l.i
