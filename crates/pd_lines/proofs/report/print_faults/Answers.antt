use Rattle.std.proofs.Common.{◌≡◌, ◌++◌, ◌∙◌, ◌∷◌, codes, decimal, []}
use Rattle.std.specs.List.{flat_map}
use Rattle.pd_grammar.specs.Lines.{fault_line}
use Rattle.pd_kinds.proofs.ListLemmas.{front_of_more}
use Rattle.pd_lines.proofs.Printing.{lines_of-faults}
use Rattle.pd_lines.proofs.report.print_faults.Goals as goal

pub returns-in_err-add_faults-clause-front : goal.returns-in_err-add_faults-clause-front
returns-in_err-add_faults-clause-front g c =
    let all = lines_of-faults c.args.report.now.faults c.args.report.now.total c.requires.some in
    let start = c.new-pieces.ensures.start (g.K.Sink.state c.args.out.now).written in
    rw all (front_of_more (flat_map fault_line c.args.report.now.faults) _ _ _ (c.add_faults.ensures.front [] _ start))

pub returns-in_err-add-clause-front : goal.returns-in_err-add-clause-front
returns-in_err-add-clause-front g c =
    let all = lines_of-faults c.args.report.now.faults c.args.report.now.total c.requires.some in
    let start = c.new-pieces.ensures.start (g.K.Sink.state c.args.out.now).written in
    rw all (front_of_more (flat_map fault_line c.args.report.now.faults) _ _ _
    (c.add.ensures.front (flat_map fault_line c.args.report.now.faults) _ (c.in_ok-add_faults.ensures.gathered [] _ start)))

pub returns-clause-whole : goal.returns-clause-whole
returns-clause-whole g c =
    let all = lines_of-faults c.args.report.now.faults c.args.report.now.total c.requires.some in
    let start = c.new-pieces.ensures.start (g.K.Sink.state c.args.out.now).written in
    let lines = flat_map fault_line c.args.report.now.faults in
    let last : c.as_bytes.result.now ≡ codes "faults " ++ (decimal c.total.result ++ (10 ∷ [])) = c.as_bytes.ensures.bytes ∙ c.total_line.ensures in
    rw (all, ← c.total.ensures, ← last)
    (c.put.ensures.whole (lines ++ c.as_bytes.result.now) _
    (c.in_ok-add.ensures.gathered lines _ (c.in_ok-add_faults.ensures.gathered [] _ start)))

pub returns-clause-front : goal.returns-clause-front
returns-clause-front g c =
    let all = lines_of-faults c.args.report.now.faults c.args.report.now.total c.requires.some in
    let start = c.new-pieces.ensures.start (g.K.Sink.state c.args.out.now).written in
    let lines = flat_map fault_line c.args.report.now.faults in
    let last : c.as_bytes.result.now ≡ codes "faults " ++ (decimal c.total.result ++ (10 ∷ [])) = c.as_bytes.ensures.bytes ∙ c.total_line.ensures in
    rw (all, ← c.total.ensures, ← last)
    (c.put.ensures.front (lines ++ c.as_bytes.result.now) _
    (c.in_ok-add.ensures.gathered lines _ (c.in_ok-add_faults.ensures.gathered [] _ start)))
