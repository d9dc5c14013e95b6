use Rattle.std.proofs.Common.{[]}
use Rattle.std.proofs.lemmas.Result.{err_from_is_err_and}
use Rattle.pd_restore_kinds.specs.Caches.{IsOfCache}
use Rattle.pd_restore_kinds.proofs.CacheLineLemmas.{given_cache, cache_reads, cache_begins}
use Rattle.pd_restore_kinds.proofs.cache.read_cache.Goals as goal

pub returns-in-Some-clause-reads : goal.returns-in-Some-clause-reads
returns-in-Some-clause-reads g c =
    let lines = c.in_ok-line.ensures.lines [] c.requires.start in
    cache_reads c.in_ok-line.line c.in-Some.cache c.next.new.self (given_cache c.in_ok-line.line c.next.new.self lines) (rw c.in-Some.is at c.cache_of.ensures.line) lines

pub returns-in-None-clause-told : goal.returns-in-None-clause-told
returns-in-None-clause-told g c t leaves =
    let other : IsOfCache c.in_ok-line.line → ⊥ = rw c.in-None.is at c.cache_of.ensures.other in
    absurd (other (given_cache c.in_ok-line.line c.next.new.self (c.in_ok-line.ensures.lines [] c.requires.start)))

pub returns-in_err-line-clause-told : goal.returns-in_err-line-clause-told
returns-in_err-line-clause-told g c t leaves =
    let p = err_from_is_err_and c.from_residual.result c.from_residual.ensures.1 in
    rw (p.1, p.2) (cache_begins c.in_err-line.field-0.0 t (c.in_err-line.ensures.text t [] c.requires.start leaves))
