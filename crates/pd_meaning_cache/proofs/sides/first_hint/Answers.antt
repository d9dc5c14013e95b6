use Rattle.pd_meaning_cache.proofs.SkipLemmas.{if_ok_told}
use Rattle.pd_meaning_cache.proofs.SidesLemmas.{hint_first}
use Rattle.pd_meaning_cache.proofs.sides.first_hint.Goals as goal

pub returns-in-Some-clause-first : goal.returns-in-Some-clause-first
returns-in-Some-clause-first g c =
    if_ok_told c.first.result (g.D.Device.state c.args.dev.now).held (λ hint image first. hint_first image hint c.args.hints.now c.in-Some.hints c.first.new.self c.in-Some.is first) c.first.ensures.first
