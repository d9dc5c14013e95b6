use Rattle.std.proofs.Common.{sym}
use Rattle.std.proofs.lemmas.Option.{IfSome_then}
use Rattle.pd_kinds.proofs.ResultLemmas.{if_any}
use Rattle.pd_meaning_cache.proofs.SkipLemmas.{passes_idle, passes_noted}
use Rattle.pd_meaning_cache.proofs.cache_rows.MapWords.enter.Goals as goal

pub returns-in-Some-clause-enters : goal.returns-in-Some-clause-enters
returns-in-Some-clause-enters g c =
    if_any (g.D.Device.state c.args.dev.now).held (λ image knows. passes_noted image c.args.b c.in-Some.length c.args.self.now knows c.in-Some.ensures.noted c.requires.none)

pub returns-clause-enters : goal.returns-clause-enters
returns-clause-enters g c =
    IfSome_then (g.D.Device.state c.args.dev.now).held c.in_ok-read.ensures.words (λ image is knows.
    passes_idle image c.args.b c.left-length.result c.read.new.self c.args.self.now (record { entries = c.args.self.now.entries; here = c.clear.new.self; idle = c.note.new.self }) knows is c.left-length.ensures.number (sym c.if-has_valid.ensures) c.note.ensures c.clear.ensures)
