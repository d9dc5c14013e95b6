use Rattle.std.specs.List.{flat_map}
use Rattle.std.proofs.Common.{◌++◌, take, drop, ◌≡◌, ◌∙◌}
use Rattle.pd_grammar.specs.Lines.{fault_line}
use Rattle.pd_kinds.proofs.ListLemmas.{front_of_more}
use Rattle.pd_lines.proofs.Printing.{gathers_front}
use Rattle.pd_lines.proofs.Printing.{lines-take-suc, lines-take}
use Rattle.pd_lines.proofs.report.add_faults.Goals as goal

pub returns-in_err-add-clause-front : goal.returns-in_err-add-clause-front
returns-in_err-add-clause-front g c = λ total start so_far.
    let lines = flat_map fault_line (take c.loop-i.i c.args.report.now.faults) in
    rw (← lines-take total c.args.report.now.faults c.loop-i.i)
    (front_of_more (total ++ lines) (flat_map fault_line (drop c.loop-i.i c.args.report.now.faults)) start _
    (c.add.ensures.front (total ++ lines) start (c.loop-i.invariant.3 total start so_far)))

pub returns-clause-front : goal.returns-clause-front
returns-clause-front g c = λ total start so_far.
    let lines = flat_map fault_line (take c.loop-i.i c.args.report.now.faults) in
    rw (← lines-take total c.args.report.now.faults c.loop-i.i)
    (front_of_more (total ++ lines) (flat_map fault_line (drop c.loop-i.i c.args.report.now.faults)) start _
    (gathers_front (total ++ lines) _ start _ (c.loop-i.invariant.3 total start so_far)))

pub loop-i-preserved : goal.loop-i-preserved
loop-i-preserved g c = (
  c.add.ensures.access ∙ c.loop-i.invariant.0,
  c.add.ensures.path ∙ c.loop-i.invariant.1,
  c.in_ok-add.ensures.faults ∙ c.loop-i.invariant.2,
  λ total start so_far.
      let lines = flat_map fault_line (take c.loop-i.i c.args.report.now.faults) in
      let line : c.as_bytes.result.now ≡ fault_line c.get.result = c.as_bytes.ensures.bytes ∙ c.line_of-line.ensures in
      rw (lines-take-suc total c.args.report.now.faults c.loop-i.i c.get.result c.get.ensures, ← line)
      (c.in_ok-add.ensures.gathered (total ++ lines) start (c.loop-i.invariant.3 total start so_far)),
)
