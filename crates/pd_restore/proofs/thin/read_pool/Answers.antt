use Rattle.std.proofs.Common.{[]}
use Rattle.std.proofs.lemmas.Result.{err_from_is_err_and}
use Rattle.pd_grammar.specs.ThinText.{pool_format, end_line}
use Rattle.pd_laid.specs.PoolText.{pool_need_so_far}
use Rattle.pd_texts.specs.ThinState.{first_of}
use Rattle.pd_restore.specs.Pools.{IsOfPool}
use Rattle.pd_restore.proofs.BeginLemmas.{given_pool, no_end, pool_reads, pool_told, pool_small}
use Rattle.pd_restoring.proofs.BeginLemmas.{begins}
use Rattle.pd_restore.proofs.thin.read_pool.Goals as goal

pub returns-in-Some-clause-reads : goal.returns-in-Some-clause-reads
returns-in-Some-clause-reads g c =
    let lines = c.in_ok-line.ensures.lines [] c.requires.start in
    pool_reads c.in_ok-line.line c.in-Some.pool c.next.new.self (given_pool (first_of c.next.new.self.state) c.in_ok-line.line c.next.new.self lines) (rw c.in-Some.is at c.pool_of.ensures.pool) lines

pub returns-in-Some-clause-small : goal.returns-in-Some-clause-small
returns-in-Some-clause-small g c =
    let lines = c.in_ok-line.ensures.lines [] c.requires.start in
    let reads = pool_reads c.in_ok-line.line c.in-Some.pool c.next.new.self (given_pool (first_of c.next.new.self.state) c.in_ok-line.line c.next.new.self lines) (rw c.in-Some.is at c.pool_of.ensures.pool) lines in
    pool_small (first_of c.next.new.self.state) c.in-Some.pool reads.so_far.lines.0

pub returns-in-Some-clause-told : goal.returns-in-Some-clause-told
returns-in-Some-clause-told g c t leaves =
    let lines = c.in_ok-line.ensures.lines [] c.requires.start in
    pool_told c.in_ok-line.line c.in-Some.pool t c.next.new.self _ (given_pool (first_of c.next.new.self.state) c.in_ok-line.line c.next.new.self lines) (rw c.in-Some.is at c.pool_of.ensures.pool)
    (c.in_ok-line.ensures.text t [] c.requires.start leaves)

pub returns-in-None-clause-told : goal.returns-in-None-clause-told
returns-in-None-clause-told g c t leaves =
    let other : IsOfPool c.in_ok-line.line → ⊥ = rw c.in-None.is at c.pool_of.ensures.other in
    absurd (other (given_pool (first_of c.next.new.self.state) c.in_ok-line.line c.next.new.self (c.in_ok-line.ensures.lines [] c.requires.start)))

pub returns-in_err-line-clause-told : goal.returns-in_err-line-clause-told
returns-in_err-line-clause-told g c t leaves =
    let p = err_from_is_err_and c.from_residual.result c.from_residual.ensures.1 in
    rw (p.1, p.2) (λ room. begins pool_format (first_of c.next.new.self.state) end_line (no_end (first_of c.next.new.self.state)) pool_need_so_far c.in_err-line.field-0.0 t (c.in_err-line.ensures.text t [] c.requires.start leaves) room)
