use Rattle.std.proofs.Common.{[]}
use Rattle.std.proofs.lemmas.Result.{err_from_is_err_and}
use Rattle.pd_grammar.specs.EraText.{first_line, end_line, era}
use Rattle.pd_grammar.specs.EraText.{era_need_so_far}
use Rattle.pd_restoring.proofs.BeginLemmas.{begins}
use Rattle.pd_restore_kinds.specs.EraRoots.{IsOfTarget}
use Rattle.pd_restore_kinds.proofs.EraPartLemmas.{given_target, no_end, target_reads, target_told}
use Rattle.pd_restore_kinds.proofs.era.read_target.Goals as goal

pub returns-in-Some-clause-reads : goal.returns-in-Some-clause-reads
returns-in-Some-clause-reads g c =
    let lines = c.in_ok-line.ensures.lines [] c.requires.start in
    target_reads c.in_ok-line.line c.in-Some.target c.next.new.self (given_target c.in_ok-line.line c.next.new.self lines) (rw c.in-Some.is at c.target_of.ensures.target) lines

pub returns-in-Some-clause-told : goal.returns-in-Some-clause-told
returns-in-Some-clause-told g c t leaves =
    let lines = c.in_ok-line.ensures.lines [] c.requires.start in
    target_told c.in_ok-line.line c.in-Some.target t c.next.new.self _ (given_target c.in_ok-line.line c.next.new.self lines) (rw c.in-Some.is at c.target_of.ensures.target)
    (c.in_ok-line.ensures.text t [] c.requires.start leaves)

pub returns-in-None-clause-told : goal.returns-in-None-clause-told
returns-in-None-clause-told g c t leaves =
    let other : IsOfTarget c.in_ok-line.line → ⊥ = rw c.in-None.is at c.target_of.ensures.other in
    absurd (other (given_target c.in_ok-line.line c.next.new.self (c.in_ok-line.ensures.lines [] c.requires.start)))

pub returns-in_err-line-clause-told : goal.returns-in_err-line-clause-told
returns-in_err-line-clause-told g c t leaves =
    let p = err_from_is_err_and c.from_residual.result c.from_residual.ensures.1 in
    rw (p.1, p.2) (λ room. begins era first_line end_line no_end era_need_so_far c.in_err-line.field-0.0 t (c.in_err-line.ensures.text t [] c.requires.start leaves) room)
