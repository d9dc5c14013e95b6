use Rattle.std.proofs.lemmas.Option.{IfSome_then}
use Rattle.pd_meaning_cache.proofs.SkipLemmas.{skips_more}
use Rattle.pd_meaning_cache.proofs.skipped_words.SkippedWords.skip.Goals as goal

pub returns-clause-skips : goal.returns-clause-skips
returns-clause-skips g c =
    IfSome_then (g.D.Device.state c.args.dev.now).held c.in_ok-settle.ensures.skips (λ image skips knows. skips_more image c.args.n c.args.self.now c.settle.new.self (skips knows))
