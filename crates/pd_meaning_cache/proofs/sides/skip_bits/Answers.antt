use Rattle.pd_meaning_cache.proofs.SkipLemmas.{on_ok_told}
use Rattle.pd_meaning_cache.proofs.SidesLemmas.{dirty_skipped}
use Rattle.pd_meaning_cache.proofs.sides.skip_bits.Goals as goal

pub returns-in-Some-clause-skips : goal.returns-in-Some-clause-skips
returns-in-Some-clause-skips g c =
    on_ok_told c.skip.result (g.D.Device.state c.args.dev.now).held (λ image skips. dirty_skipped image c.args.n c.args.bits.now c.in-Some.bits c.skip.new.self c.in-Some.is skips) c.skip.ensures.skips
