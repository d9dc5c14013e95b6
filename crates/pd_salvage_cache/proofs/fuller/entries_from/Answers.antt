use Rattle.std.proofs.Common.{length, ap, sym, ◌∙◌}
use Rattle.std.proofs.lemmas.List.{length-map}
use Rattle.std.proofs.lemmas.Option.{IfSome_then}
use Rattle.pd_kinds.specs.Meaning.{CacheEntry, CacheMeaning}
use Rattle.pd_salvage_cache.specs.declared.saved.Row.{Row}
use Rattle.pd_salvage_cache.specs.SavedCache.{entry}
use Rattle.pd_salvage_cache.proofs.fuller.entries_from.Goals as goal

pub returns-clause-entries : goal.returns-clause-entries
returns-clause-entries g c =
    IfSome_then (g.D.Device.state c.args.dev.now).held c.in_ok-saved.ensures.saved (λ image is.
    ap length c.rows.ensures ∙ (sym (length-map {A = Row} {B = CacheEntry} c.in_ok-saved.saved.rows entry) ∙ ap (λ (m : CacheMeaning). length m.entries) is))
