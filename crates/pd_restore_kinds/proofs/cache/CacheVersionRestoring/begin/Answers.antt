use Rattle.pd_restore_kinds.proofs.WriteLemmas.{told_for}
use Rattle.pd_restore_kinds.proofs.cache.CacheVersionRestoring.begin.Goals as goal

pub returns-clause-told : goal.returns-clause-told
returns-clause-told g c t is = told_for c.begin.result c.args.self.now.version t (g.S.Source.state c.begin.new.source).left (c.begin.ensures.told t is)
