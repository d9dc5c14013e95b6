use Rattle.std.proofs.Common.{ℕ, List, [], Option, sym, subst}
use Rattle.std.proofs.lemmas.Result.{err_from_is_err_and}
use Rattle.pd_grammar.specs.CacheText.{cache_single}
use Rattle.pd_texts.specs.Reader.{LeavesOf}
use Rattle.pd_restore_kinds.proofs.cache.begin.Goals as goal

pub returns-in_err-cache-clause-told : goal.returns-in_err-cache-clause-told
returns-in_err-cache-clause-told g c t is =
    let p = err_from_is_err_and c.from_residual-in_err-cache.result c.from_residual-in_err-cache.ensures.1 in
    rw (p.1, p.2) (c.in_err-cache.ensures.told t (subst (λ (left : Option (List ℕ)). LeavesOf cache_single t [] c.in_ok-text.text left) (sym is) (c.in_ok-text.ensures.text t)))
