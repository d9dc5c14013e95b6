use Rattle.std.proofs.Common.{refl, ap}
use Rattle.pd_salvage_cache.specs.declared.saved.CacheHead.{CacheHead}
use Rattle.pd_repair.proofs.CacheLemmas.{kept_is}
use Rattle.pd_repair.proofs.cache_repair.kept_of.Goals as goal

pub returns : goal.returns
returns c =
    let head = c.head-head.ensures.head in
    kept_is c.args.saved.now _ c.rows-rows.result.now c.head-head.result.now.clean c.rows-rows.ensures (ap (λ (h : CacheHead). h.clean) head) refl
    (ap (λ (h : CacheHead). h.blocks) head) c.dirty_in.ensures c.unknown.ensures
