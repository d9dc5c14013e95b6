use Rattle.std.proofs.Common.{refl}
use Rattle.std.proofs.lemmas.Option.{IfSome_then}
use Rattle.pd_meaning_cache.proofs.SoundCache.{skips_bits}
use Rattle.pd_meaning_cache.proofs.skipped_words.SkippedBits.skip.Goals as goal

pub returns-clause-skips : goal.returns-clause-skips
returns-clause-skips g c =
    IfSome_then (g.D.Device.state c.args.dev.now).held c.in_ok-skip.ensures.skips (λ image skips knows. skips_bits image c.args.n c.args.self.now _ refl (skips knows))
