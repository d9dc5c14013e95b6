use Rattle.std.proofs.Common.{arith}
use Rattle.pd_dumps.proofs.EraLemmas.{only_line}
use Rattle.pd_dumps.proofs.runs.OpenRun.end.Goals as goal

pub returns-clause-prints : goal.returns-clause-prints
returns-clause-prints g c =
    let run = c.args.self.now in
    rw (only_line (g.R.RunKind.line c.args.kind.now) run.first run.length run.value (omega (arith, c.if-self-eq0.false))) c.print.ensures.prints
