use Rattle.std.proofs.Common.{◌∙◌, ap}
use Rattle.pd_kinds.specs.CacheFormat.{CacheFields}
use Rattle.pd_kinds.proofs.ResultLemmas.{if_any}
use Rattle.pd_query.proofs.QueryLemmas.{one_told}
use Rattle.pd_dumps.specs.CacheLines.{cache_dump_text}
use Rattle.pd_dumps.proofs.CacheMeaningLemmas.{text_means}
use Rattle.pd_dumps.proofs.cache.CacheDump.start.Goals as goal

pub returns-clause-text : goal.returns-clause-text
returns-clause-text g c =
    one_told (g.D.Device.state c.args.dev.now).held
    (λ image read some. c.in_ok-dump.ensures.text image ∙ ap (λ (fields : CacheFields). cache_dump_text image fields) (read some)) c.in-Ok.ensures.fields

pub returns-clause-means : goal.returns-clause-means
returns-clause-means g c =
    text_means (g.D.Device.state c.args.dev.now).held c.in-Ok.s c.in_ok-dump.dump (g.met.D.Device.bytes c.args.dev.now) c.in-Ok.ensures.fields
    (if_any (g.D.Device.state c.args.dev.now).held c.in_ok-dump.ensures.text) c.given_cache_lines_are_the_text.ensures
