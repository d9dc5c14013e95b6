use Rattle.std.proofs.Common.{refl}
use Rattle.std.proofs.lemmas.Option.{IfSome_then}
use Rattle.pd_meaning_cache.proofs.SoundCache.{is_first_bit}
use Rattle.pd_meaning_cache.proofs.skipped_words.SkippedBits.first.Goals as goal

pub returns-clause-first : goal.returns-clause-first
returns-clause-first g c =
    IfSome_then (g.D.Device.state c.args.dev.now).held c.in_ok-word.ensures.first (λ image first knows. is_first_bit image c.in_ok-word.word c.args.self.now _ c.args.self.now.within refl (first knows))
