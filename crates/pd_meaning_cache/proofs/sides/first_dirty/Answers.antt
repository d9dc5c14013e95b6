use Rattle.std.proofs.lemmas.Option.{IfSome_then}
use Rattle.pd_meaning_cache.proofs.SidesLemmas.{dirty_first}
use Rattle.pd_meaning_cache.proofs.sides.first_dirty.Goals as goal

pub returns-in_ok-first-in-Some-clause-first : goal.returns-in_ok-first-in-Some-clause-first
returns-in_ok-first-in-Some-clause-first g c =
    IfSome_then (g.D.Device.state c.args.dev.now).held c.in_ok-first-in-Some.ensures.first (λ image first. dirty_first image c.args.word c.in_ok-first-in-Some.field-0 c.args.bits.now c.in-Some.bits c.first.new.self c.in-Some.is first)
