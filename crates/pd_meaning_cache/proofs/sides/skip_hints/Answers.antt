use Rattle.pd_meaning_cache.proofs.SkipLemmas.{on_ok_told}
use Rattle.pd_meaning_cache.proofs.SidesLemmas.{hints_skipped}
use Rattle.pd_meaning_cache.proofs.sides.skip_hints.Goals as goal

pub returns-in-Some-clause-skips : goal.returns-in-Some-clause-skips
returns-in-Some-clause-skips g c =
    on_ok_told c.skip.result (g.D.Device.state c.args.dev.now).held (λ image skips. hints_skipped image c.args.n c.args.hints.now c.in-Some.hints c.skip.new.self c.in-Some.is skips) c.skip.ensures.skips
