use Rattle.std.proofs.Common.{◌≡◌, ℕ, List, Option, IfSome, subst}
use Rattle.pd_answers.specs.KeptCache.{with_roots}
use Rattle.pd_kept.specs.KeptCache.{cache_text, text_from}
use Rattle.pd_kept.proofs.CacheLemmas.{is_answer, sizes_fit}
use Rattle.pd_kept.proofs.cache_query.KeptOfCacheQuery.start.Goals as goal

pub kept_from-requires-clause-within : goal.kept_from-requires-clause-within
kept_from-requires-clause-within g c =
    let found = rw c.in-Some.is at c.in-Ok.ensures.sound in
    rw (c.over.ensures, c.sound_cache_super.ensures.kept.blocks) (sizes_fit c.args.self.now.named c.in-Some.s (g.D.Device.state c.args.dev.now) found).0

pub kept_from-requires-clause-hints : goal.kept_from-requires-clause-hints
kept_from-requires-clause-hints g c =
    let found = rw c.in-Some.is at c.in-Ok.ensures.sound in
    rw c.over.ensures (sizes_fit c.args.self.now.named c.in-Some.s (g.D.Device.state c.args.dev.now) found).1

pub returns-in-Ok-kept_from-clause-over : goal.returns-in-Ok-kept_from-clause-over
returns-in-Ok-kept_from-clause-over g c =
    let named = c.args.self.now.named in
    let s = c.in-Some.s in
    let told = c.in-Ok-kept_from.told in
    let found = rw c.in-Some.is at c.in-Ok.ensures.sound in
    is_answer named (g.D.Device.state c.args.dev.now).held s told found.right
    (subst (λ (held : Option (List (List ℕ))). IfSome held (λ image. cache_text told ≡ text_from (with_roots named s) image)) c.sound_cache_super.ensures.kept.held
    (rw c.over.ensures at c.in-Ok-kept_from.ensures.told))
