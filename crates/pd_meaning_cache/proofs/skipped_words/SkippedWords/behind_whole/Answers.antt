use Rattle.std.proofs.Common.{◌-◌, refl, arith}
use Rattle.pd_meaning_cache.proofs.SkipLemmas.{whole_block}
use Rattle.pd_meaning_cache.proofs.skipped_words.SkippedWords.behind_whole.Goals as goal

pub returns-then-length-self : goal.returns-then-length-self
returns-then-length-self c = λ image knows.
    whole_block image c.args.b c.in-Some.length (c.args.self.now.behind - c.in-Some.length) c.args.self.now knows c.in-Some.ensures.noted (omega (arith, c.if-length-self.true)) refl
