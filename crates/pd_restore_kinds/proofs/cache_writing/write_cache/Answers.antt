use Rattle.std.proofs.Common.{◌≡◌, List, length, sym, ◌∙◌, subst}
use Rattle.std.proofs.lemmas.Result.{err_from_is_err_and}
use Rattle.pd_draft.specs.DraftState.{draft_state}
use Rattle.pd_grammar.specs.CacheText.{Line, cache_single}
use Rattle.pd_texts.specs.Reader.{LeavesOf}
use Rattle.pd_restoring.proofs.ReadingLemmas.{later_take}
use Rattle.pd_salvage_cache.specs.declared.saved.CacheHead.{CacheHead}
use Rattle.pd_restore_kinds.specs.CacheReading.{SaysAfter}
use Rattle.pd_restore_kinds.proofs.CacheLineLemmas.{gathered_lawful}
use Rattle.pd_restore_kinds.proofs.WriteLemmas.{gathered_need, none_gathered, says_of, writes_of}
use Rattle.pd_restore_kinds.proofs.cache_writing.write_cache.Goals as goal

pub write_gathered-requires-clause-lawful : goal.write_gathered-requires-clause-lawful
write_gathered-requires-clause-lawful g c =
    let e = c.in_ok-gather_lines.ensures.ends in
    gathered_lawful c.gather_lines.new.gathered
    (subst (λ (cache : CacheHead). length cache.versions ≡ 3) (sym (e.cache_is ∙ c.new-gathered.ensures.cache)) c.requires.stands.small.versions) e.all

pub returns-clause-writes : goal.returns-clause-writes
returns-clause-writes g c =
    let e = c.in_ok-gather_lines.ensures.ends in
    let was = (g.S.Source.state c.args.source.now).left in
    let left = (g.S.Source.state c.gather_lines.new.source).left in
    let same = e.cache_is ∙ c.new-gathered.ensures.cache in
    let lines = none_gathered c.new-gathered.result c.args.begun c.new-gathered.ensures.cache c.new-gathered.ensures.none in
    writes_of (draft_state c.args.draft.now) (draft_state c.write_gathered.new.draft) c.write_gathered.result c.args.begun c.gather_lines.new.gathered c.args.version c.args.room was left
    (subst (λ (cache : CacheHead). length cache.versions ≡ 3) (sym same) c.requires.stands.small.versions) e.all (gathered_need c.gather_lines.new.gathered c.args.begun c.args.version c.args.room same c.requires.need) c.requires.most
    (λ t leaves. e.told t (subst (λ (ls : List Line). LeavesOf cache_single t ls c.args.begun.text was) (sym lines) leaves))
    c.write_gathered.ensures.super_is c.write_gathered.ensures.wrote

pub returns-in_err-gather_lines-clause-says : goal.returns-in_err-gather_lines-clause-says
returns-in_err-gather_lines-clause-says g c t leaves =
    let was = (g.S.Source.state c.args.source.now).left in
    let lines = none_gathered c.new-gathered.result c.args.begun c.new-gathered.ensures.cache c.new-gathered.ensures.none in
    let p = err_from_is_err_and c.from_residual.result c.from_residual.ensures.1 in
    rw (p.1, p.2)
    (says_of c.args.begun.cache c.args.version c.args.room t c.in_err-gather_lines.field-0.0 c.requires.need
    (subst (λ (cache : CacheHead). SaysAfter cache t c.in_err-gather_lines.field-0.0) c.new-gathered.ensures.cache (c.in_err-gather_lines.ensures.says t (subst (λ (ls : List Line). LeavesOf cache_single t ls c.args.begun.text was) (sym lines) leaves))))

pub returns-clause-later : goal.returns-clause-later
returns-clause-later g c = later_take c.write_gathered.result _ _ c.write_gathered.ensures.faults
