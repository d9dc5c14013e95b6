use Rattle.std.proofs.Common.{[], ◌∙◌, None, Ok, Err}
use Rattle.pd_meaning_thin.specs.Runs.{begun_mappings, given_runs}
use Rattle.pd_query.specs.declared.query.QueryFault.{QueryFault}
use Rattle.pd_pool_dumps.proofs.LeafTextLemmas.{behind, ends_first, goes_behind}
use Rattle.pd_query.proofs.QueryLemmas.{one_told}
use Rattle.pd_pool_dumps.proofs.RunLemmas.{runs_both, runs_fail, runs_known, runs_lost}
use Rattle.pd_pool_dumps.proofs.leaf_lines.add_later.Goals as goal

pub returns-in_err-add_run-clause-prints : goal.returns-in_err-add_run-clause-prints
returns-in_err-add_run-clause-prints g c = λ held whole left on.
    let begun = given_runs (begun_mappings c.args.joined.now.begun) in
    let lost = c.in_err-add_run.ensures.prints held whole (λ image. behind begun (whole image))
    (one_told held (λ image on. ends_first c.end-ended.result c.args.later.now begun (whole image) (left image) c.end-ended.ensures.given on) on) in
    runs_fail held left c.from_residual.result c.from_residual.ensures.0 lost.outcome

pub returns-in_err-print_line-clause-prints : goal.returns-in_err-print_line-clause-prints
returns-in_err-print_line-clause-prints g c = λ held whole left on.
    let begun = given_runs (begun_mappings c.args.joined.now.begun) in
    let first = c.in_ok-add_run.ensures.prints held whole (λ image. behind begun (whole image))
    (one_told held (λ image on. ends_first c.end-ended.result c.args.later.now begun (whole image) (left image) c.end-ended.ensures.given on) on) in
    let lost = runs_known held {E = QueryFault} c.args.later.now {whole = λ image. behind begun (whole image)} {left = left} {first = c.add_run.new.counts} {last = c.add_run.new.counts} (Err c.in_err-print_line.field-0.0)
    (rw c.as_slice.ensures.value at c.in_err-print_line.ensures.prints) tt (one_told held (λ image on. goes_behind c.args.later.now begun (whole image) (left image) on) on) in
    runs_fail held left c.from_residual-in_err-print_line.result c.from_residual-in_err-print_line.ensures.0 (runs_lost held first.outcome lost.outcome)

pub returns-clause-prints : goal.returns-clause-prints
returns-clause-prints g c = λ held whole left on.
    let begun = given_runs (begun_mappings c.args.joined.now.begun) in
    let first = c.in_ok-add_run.ensures.prints held whole (λ image. behind begun (whole image))
    (one_told held (λ image on. ends_first c.end-ended.result c.args.later.now begun (whole image) (left image) c.end-ended.ensures.given on) on) in
    let more = runs_known held {E = QueryFault} c.args.later.now {first = c.add_run.new.counts} {last = c.add.new.self} (Ok tt)
    (rw c.as_slice.ensures.value at c.in_ok-print_line.ensures.prints) c.add.ensures (one_told held (λ image on. goes_behind c.args.later.now begun (whole image) (left image) on) on) in
    record { outcome = runs_both held first.outcome more.outcome }

pub print_line-requires-clause-open : goal.print_line-requires-clause-open
print_line-requires-clause-open g c =
    let begins = c.in_ok-add_run.ensures.prints None (λ image. []) (λ image. []) tt in
    begins.outcome.printed.kept.access ∙ c.requires
