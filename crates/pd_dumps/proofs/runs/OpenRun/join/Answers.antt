use Rattle.std.proofs.Common.{[], ◌+◌, ◌++◌}
use Rattle.pd_lines.specs.Printer.{printing}
use Rattle.pd_lines.proofs.Printing.{begun_first}
use Rattle.pd_grammar.specs.EraText.{eras_from, joined_eras}
use Rattle.pd_dumps.specs.EraLines.{printed_from, text_from}
use Rattle.pd_dumps.proofs.EraLemmas.{run_ends, run_grows}
use Rattle.pd_dumps.proofs.PartLemmas.{front_none, up_to_lost}
use Rattle.pd_dumps.proofs.runs.OpenRun.join.Goals as goal

pub returns-then-grows-clause-prints : goal.returns-then-grows-clause-prints
returns-then-grows-clause-prints g c = λ later.
    let run = c.args.self.now in
    front_none (printing g.K.Sink.state c.args.printer.now) (run_grows (g.R.RunKind.line c.args.kind.now) run.first run.length run.value c.args.value c.args.length later c.if-grows.true)

pub returns-in_err-end-clause-prints : goal.returns-in_err-end-clause-prints
returns-in_err-end-clause-prints g c = λ later.
    let run = c.args.self.now in
    let line = g.R.RunKind.line c.args.kind.now in
    up_to_lost (text_from line run later) c.from_residual.result c.from_residual.ensures.0
    (rw (run_ends line run.first run.length run.value c.args.value c.args.length later c.requires.some c.if-grows.false)
    (begun_first (printed_from line (run.first + run.length) (joined_eras (eras_from c.args.value c.args.length ++ later))) c.in_err-end.ensures.prints))

pub returns-clause-prints : goal.returns-clause-prints
returns-clause-prints g c = λ later.
    let run = c.args.self.now in
    let line = g.R.RunKind.line c.args.kind.now in
    record {
      front = text_from line run [];
      cut = run_ends line run.first run.length run.value c.args.value c.args.length later c.requires.some c.if-grows.false;
      printed = c.in_ok-end.ensures.prints;
    }
