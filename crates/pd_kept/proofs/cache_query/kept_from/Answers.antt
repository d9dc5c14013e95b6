use Rattle.std.proofs.Common.{◌≡◌, ℕ, List, map, Option, IfSome, subst}
use Rattle.pd_laid.specs.CacheRoots.{fuller_roots}
use Rattle.pd_salvage_cache.specs.Fuller.{root_as}
use Rattle.pd_kept.proofs.CacheLemmas.{text_told}
use Rattle.pd_kept.proofs.cache_query.kept_from.Goals as goal

pub returns-clause-told : goal.returns-clause-told
returns-clause-told g c =
    text_told (g.D.Device.state c.args.dev.now).held c.args.s.now c.in_ok-kept.kept c.in_ok-roots.roots.items c.in_ok-kept.ensures.told
    (subst (λ (held : Option (List (List ℕ))). IfSome held (λ image. map root_as c.in_ok-roots.roots.items ≡ fuller_roots c.args.s.now image)) c.kept_by_cache_repair.ensures.kept.held c.in_ok-roots.ensures.roots)
