use Rattle.std.proofs.lemmas.Option.{IfSome_then}
use Rattle.pd_kinds.proofs.ResultLemmas.{if_any}
use Rattle.pd_meaning_cache.proofs.SkipLemmas.{enters_passed, enters_read}
use Rattle.pd_meaning_cache.proofs.skipped_words.SkippedWords.enter.Goals as goal

pub returns-in-Some-clause-enters : goal.returns-in-Some-clause-enters
returns-in-Some-clause-enters g c =
    if_any (g.D.Device.state c.args.dev.now).held (λ image knows. enters_passed image c.args.b c.in-Some.behind c.args.self.now c.clear.new.self knows (c.in-Some.ensures image knows) c.clear.ensures)

pub returns-clause-enters : goal.returns-clause-enters
returns-clause-enters g c =
    IfSome_then (g.D.Device.state c.args.dev.now).held c.in_ok-read.ensures.words (λ image is knows.
    enters_read image c.args.b c.left-length.result c.args.self.now c.read.new.self c.note.new.self knows is c.left-length.ensures.number c.note.ensures)
