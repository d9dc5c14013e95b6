use Rattle.pd_repair.proofs.CacheLemmas.{kept_told}
use Rattle.pd_repair.proofs.cache_repair.kept_by_cache_repair.Goals as goal

pub returns-clause-told : goal.returns-clause-told
returns-clause-told g c =
    kept_told c.kept_of.result c.in_ok-saved.saved c.args.s.now (g.D.Device.state c.args.dev.now).held c.kept_of.ensures c.in_ok-saved.ensures.saved c.in_ok-saved.ensures.unknown
