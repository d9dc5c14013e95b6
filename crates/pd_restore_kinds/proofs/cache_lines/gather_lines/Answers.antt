use Rattle.std.proofs.Common.{rules, subst, [], ◌∷◌, Err}
use Rattle.std.specs.Prelude.{IfErr}
use Rattle.pd_grammar.specs.Texts.{whole}
use Rattle.pd_grammar.specs.CacheText.{end_line}
use Rattle.pd_restoring.specs.declared.fault.RestoreFault.TheVariants.{Text}
use Rattle.pd_salvage_cache.specs.declared.saved.CacheHead.{CacheHead}
use Rattle.pd_restore_kinds.specs.CacheReading.{SaysAfter}
use Rattle.pd_restore_kinds.proofs.CacheLineLemmas.{single_rest, single_says}
use Rattle.pd_restore_kinds.proofs.OriginLemmas.{repeats_say, repeats_later}
use Rattle.pd_restore_kinds.proofs.cache_lines.gather_lines.Goals as goal

pub returns-in-Ok-clause-says : goal.returns-in-Ok-clause-says
returns-in-Ok-clause-says g c t leaves =
    let e = c.in-Ok.ensures in
    let all = e.ends.told t leaves in
    subst (λ (cache : CacheHead). IfErr c.check_origins.result (SaysAfter cache t)) e.cache
    (repeats_say c.check_origins.result c.read_lines.new.gathered t (whole (end_line ∷ [])) all.0 c.check_origins.ensures.repeated)

pub returns-in-Ok-clause-later : goal.returns-in-Ok-clause-later
returns-in-Ok-clause-later g c = repeats_later c.check_origins.result c.read_lines.new.gathered c.check_origins.ensures.repeated

pub returns-in_err-check_origins-in-Err-Text-clause-says : goal.returns-in_err-check_origins-in-Err-Text-clause-says
returns-in_err-check_origins-in-Err-Text-clause-says g c t leaves =
    let e = c.in-Err-Text.ensures in
    let fault = c.in_err-check_origins-in-Err-Text.field-0.0 in
    let front = single_rest t c.read_lines.new.gathered c.in-Err-Text.fault (rw c.in-Err-Text.field-0-is at (e.says t leaves)) in
    let says = subst (λ (cache : CacheHead). SaysAfter cache t fault) e.cache
    (repeats_say (Err fault) c.read_lines.new.gathered t front.0 front.1 c.in_err-check_origins-in-Err-Text.ensures.repeated) in
    search rules

pub returns-in_err-check_origins-in-Err-Text-clause-later : goal.returns-in_err-check_origins-in-Err-Text-clause-later
returns-in_err-check_origins-in-Err-Text-clause-later g c =
    let fault = c.in_err-check_origins-in-Err-Text.field-0.0 in
    let later = repeats_later (Err fault) c.read_lines.new.gathered c.in_err-check_origins-in-Err-Text.ensures.repeated in
    search rules

pub returns-in_ok-check_origins-in-Err-Text-clause-says : goal.returns-in_ok-check_origins-in-Err-Text-clause-says
returns-in_ok-check_origins-in-Err-Text-clause-says g c t leaves =
    let e = c.in-Err-Text.ensures in
    subst (λ (cache : CacheHead). SaysAfter cache t (Text c.in-Err-Text.fault)) e.cache
    (single_says t c.read_lines.new.gathered (Text c.in-Err-Text.fault) c.in_ok-check_origins-in-Err-Text.ensures.differ (rw c.in-Err-Text.field-0-is at (e.says t leaves)))
