use Rattle.std.proofs.Common.{IfSome, refl, subst}
use Rattle.std.proofs.lemmas.Option.{IfSome_then}
use Rattle.pd_tree.proofs.NextLemmas.{if_both}
use Rattle.pd_meaning_cache.specs.SkippedWords.{EntersBlock, KnowsIdle}
use Rattle.pd_meaning_cache.proofs.SkipLemmas.{goes_nowhere, goes_on}
use Rattle.pd_meaning_cache.proofs.cache_rows.MapWords.go_on.Goals as goal

pub returns-in_ok-n-in-Some-clause-goes_on : goal.returns-in_ok-n-in-Some-clause-goes_on
returns-in_ok-n-in-Some-clause-goes_on g c =
    let old = c.args.self.now in
    if_both (g.D.Device.state c.args.dev.now).held
    (λ image held next enters knows. goes_on image c.in_ok-n-in-Some.n c.in-Some.field-0-0 c.in-Some.root old (record old { entries = c.next.new.self }) c.enter.new.self knows c.requires.none next refl c.enter.ensures.entries enters)
    (rw c.in-Some.is at c.in_ok-entry.ensures.next)
    (subst (λ o. IfSome o (λ image. KnowsIdle image old → EntersBlock image c.in-Some.root.0 c.in_ok-n-in-Some.n c.enter.new.self)) c.in_ok-entry.ensures.kept.held c.in_ok-n-in-Some.ensures.enters)

pub returns-in-None-clause-goes_on : goal.returns-in-None-clause-goes_on
returns-in-None-clause-goes_on g c =
    IfSome_then (g.D.Device.state c.args.dev.now).held (rw c.in-None.is at c.in_ok-entry.ensures.next)
    (λ image ends knows. goes_nowhere image c.args.self.now (record { entries = c.next.new.self; here = c.args.self.now.here; idle = c.args.self.now.idle }) knows c.requires.none ends refl refl)
